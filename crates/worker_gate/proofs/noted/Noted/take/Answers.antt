use Rattle.worker_gate.proofs.Common.{ap, refl}
use Rattle.worker_gate.proofs.Appended.{take_posts}
use Rattle.worker_gate.proofs.Passes.{kept_on}
use Rattle.worker_gate.proofs.noted.Noted.take.Goals as goal

pub invariant_of-self : goal.invariant_of-self
invariant_of-self g c =
    let noted = c.args.self.now in
    let before = g.B.Board.seen noted.held.board in
    let after = g.B.Board.seen c.take.new.self.board in
    record {
      follow = kept_on before.history after.history (g.B.Board.seen noted.held.opened.value).history (g.B.Board.seen c.take.new.self.opened.value).history noted.passes.items noted.passes.items noted.keeps noted.keeps
          (take_posts c.take.result c.args.worker before after c.take.ensures.makes) (ap (λ r. (g.B.Board.seen r.opened.value).history) c.take.ensures.root) refl refl noted.follow;
    }
