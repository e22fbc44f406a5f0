use Rattle.board_lock.proofs.Common.{arith, ap, sym, ◌∙◌, rest}
use Rattle.board_lock.proofs.Keeps.{frees_as}
use Rattle.board_lock.proofs.lock.Lock.leave.Goals as goal

pub store-requires : goal.store-requires
store-requires g c =
    let e = c.exchange-before.ensures in
    let sized = c.self.invariant in
    let seat = c.requires.seat in
    (e.0 ∙ seat.0 ∙ sym c.self.view_is, omega (arith, sized.0), frees_as g.T.Rooted.root _ _ _ _ _ c.args.value _ sized.1 e.3 (ap rest seat.1) seat.2 c.requires.root)
