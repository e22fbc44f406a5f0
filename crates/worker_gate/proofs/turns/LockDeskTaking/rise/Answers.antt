use Rattle.worker_gate.proofs.Common.{◌∙◌, refl}
use Rattle.worker_gate.proofs.turns.LockDeskTaking.rise.Goals as goal

pub returns : goal.returns
returns g c = λ number outside. (c.into_badge.result, refl, (c.into_badge.ensures.0 ∙ outside.0, (c.args.pass.me.0, c.into_badge.ensures.2, outside.2, refl)))
