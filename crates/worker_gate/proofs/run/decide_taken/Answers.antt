use Rattle.worker_gate.proofs.Common.{List, subst, Cut, book_at, cuts_in, IsDecision}
use Rattle.worker_gate.proofs.run.decide_taken.Goals as goal

pub returns-clause-decision : goal.returns-clause-decision
returns-clause-decision g c =
    let i = c.args.instance.now in
    let t = c.args.taken in
    let cuts = cuts_in (book_at (g.B.Board.seen c.args.board.now)).nodes t.node in
    let ask = c.in_ok-ask.ask in
    let step = c.in_ok-step.step in
    let d = c.in_ok-step.ensures.decision in
    let of_cuts = subst (λ (l : List Cut). IsDecision i t.node l ask.floor ask.best d.0 step) (c.in_ok-ask.ensures.cuts t.node c.requires.held) d.1 in
    let of_floor = subst (λ n. IsDecision i t.node cuts n ask.best d.0 step) c.in_ok-ask.ensures.floor of_cuts in
    (d.0, subst (λ n. IsDecision i t.node cuts t.floor n d.0 step) c.in_ok-ask.ensures.best of_floor)
