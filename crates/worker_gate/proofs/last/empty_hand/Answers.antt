use Rattle.worker_gate.proofs.Common.{◌≡◌, arith, None, hand}
use Rattle.worker_gate.proofs.Hands.{empty_already}
use Rattle.worker_gate.proofs.last.empty_hand.Goals as goal

pub returns-in_default-clause-emptied : goal.returns-in_default-clause-emptied
returns-in_default-clause-emptied g c = λ still.
    let hands = (g.B.Board.seen c.args.noted.now.held.board).hands in
    let sixteen = (g.met.B.Board.sound c.args.noted.now.held.board).sixteen in
    let none : hand hands c.args.place.now.number ≡ None = cc (c.in_default.ensures) in
    empty_already hands c.args.place.now.number (omega (arith, sixteen, c.args.place.now.sixteen)) none
