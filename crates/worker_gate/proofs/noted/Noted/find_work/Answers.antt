use Rattle.worker_gate.proofs.Common.{ap, refl}
use Rattle.worker_gate.proofs.Passes.{kept_on}
use Rattle.worker_gate.proofs.noted.Noted.find_work.Goals as goal

pub invariant_of-self : goal.invariant_of-self
invariant_of-self g c =
    let noted = c.args.self.now in
    let before = g.B.Board.seen noted.held.board in
    let after = g.B.Board.seen c.next_work.new.held.board in
    record {
      follow = kept_on before.history after.history (g.B.Board.seen noted.held.opened.value).history (g.B.Board.seen c.next_work.new.held.opened.value).history noted.passes.items noted.passes.items noted.keeps noted.keeps
          c.next_work.ensures.posts (ap (λ r. (g.B.Board.seen r.opened.value).history) c.next_work.ensures.root) refl refl noted.follow;
    }
