use Rattle.worker_gate.proofs.Common.{ap, refl}
use Rattle.worker_gate.proofs.Passes.{kept_on}
use Rattle.worker_gate.proofs.noted.Noted.work_of.Goals as goal

pub invariant_of-self : goal.invariant_of-self
invariant_of-self g c =
    let noted = c.args.self.now in
    let before = g.B.Board.seen noted.held.board in
    let after = g.B.Board.seen c.work_of.new.held.board in
    record {
      follow = kept_on before.history after.history (g.B.Board.seen noted.held.opened.value).history (g.B.Board.seen c.work_of.new.held.opened.value).history noted.passes.items noted.passes.items noted.keeps noted.keeps
          c.work_of.ensures.posts (ap (λ r. (g.B.Board.seen r.opened.value).history) c.work_of.ensures.root) refl refl noted.follow;
    }
