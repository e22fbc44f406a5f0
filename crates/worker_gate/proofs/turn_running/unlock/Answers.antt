use Rattle.worker_gate.proofs.Common.{◌∙◌, Some, same_Some, root_at, new_seat}
use Rattle.worker_gate.proofs.turn_running.unlock.Goals as goal

pub returns-clause-root : goal.returns-clause-root
returns-clause-root g c =
    let d = new_seat c.args.lock.name (Some c.args.root) 0 in
    let noted = c.close-noted.result.noted in
    same_Some (root_at noted.held.opened noted.held.workers) c.args.root (c.close-noted.ensures.root 0 d c.requires.some ∙ c.requires.of_root 0 d c.requires.some)
