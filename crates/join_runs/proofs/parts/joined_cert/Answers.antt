use Rattle.join_runs.proofs.Common.{map}
use Rattle.join_runs.proofs.Before.{joined_agrees}
use Rattle.join_runs.proofs.parts.joined_cert.Goals as goal

pub returns-in-Ok-clause-agrees : goal.returns-in-Ok-clause-agrees
returns-in-Ok-clause-agrees g c =
    joined_agrees c.args.instance.now c.args.whole (map g.P.Source.left c.args.parts.now) c.in_ok-joining.joining c.in-Ok.cert c.slots-valid.ensures.valid c.in_ok-joining.ensures.joined c.in-Ok.ensures.joined
    c.in-Ok.ensures.few c.in-Ok.ensures.agrees
