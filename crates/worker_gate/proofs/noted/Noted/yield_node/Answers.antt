use Rattle.worker_gate.proofs.Common.{ap, refl}
use Rattle.worker_gate.proofs.Passes.{kept_on}
use Rattle.worker_gate.proofs.noted.Noted.yield_node.Goals as goal

pub invariant_of-self : goal.invariant_of-self
invariant_of-self g c =
    let noted = c.args.self.now in
    let before = g.B.Board.seen noted.held.board in
    let after = g.B.Board.seen c.yield_node.new.self.board in
    record {
      follow = kept_on before.history after.history (g.B.Board.seen noted.held.opened.value).history (g.B.Board.seen c.yield_node.new.self.opened.value).history noted.passes.items noted.passes.items noted.keeps noted.keeps
          (ap (λ v. v.history) c.yield_node.ensures.makes) (ap (λ r. (g.B.Board.seen r.opened.value).history) c.yield_node.ensures.root) refl refl noted.follow;
    }
