use Rattle.worker_gate.proofs.Common.{◌∙◌, ap, sym}
use Rattle.worker_gate.proofs.Snapped.{same_root}
use Rattle.worker_gate.proofs.turn_running.lock_up.Goals as goal

pub returns-in-Ok-clause-seats : goal.returns-in-Ok-clause-seats
returns-in-Ok-clause-seats g c =
    let held = c.kept-noted.ensures.held in
    let opened = ap (λ h. h.opened.value) held ∙ c.new-held.ensures.opened ∙ sym c.of.ensures in
    let workers = ap (λ h. h.workers) held ∙ c.new-held.ensures.workers in
    let root = same_root c.kept-noted.result.held.opened c.of.result c.kept-noted.result.held.workers c.args.workers opened workers in
    rw root at c.in-Ok.ensures.seats
