use Rattle.worker_gate.proofs.Common.{arith, ap, refl}
use Rattle.worker_gate.proofs.Appended.{appends_of}
use Rattle.worker_gate.proofs.Passes.{pushed_on}
use Rattle.worker_gate.proofs.noted.Noted.commit_noted.Goals as goal

pub invariant_of-self-3 : goal.invariant_of-self-3
invariant_of-self-3 g c =
    let noted = c.args.self.now in
    let before = g.B.Board.seen noted.held.board in
    let held = c.commit_in-kept.new.held in
    let after = g.B.Board.seen held.board in
    let made = c.commit_in-kept.ensures in
    let appends = appends_of c.args.worker c.args.step before after c.commit_in-kept.result made.kept made.left in
    record {
      follow = λ keeps. pushed_on before.history after.history (g.B.Board.seen noted.held.opened.value).history (g.B.Board.seen held.opened.value).history
          noted.passes.items c.push_reserved.new.self.items c.args.worker (record { seat = c.args.worker; from = c.posts-from.result; to = c.posts-to.result })
          appends (ap (λ r. (g.B.Board.seen r.opened.value).history) made.root) c.push_reserved.ensures.items refl c.posts-from.ensures c.posts-to.ensures (omega (arith, c.if-to-from.false)) (noted.follow keeps);
    }
