use Rattle.board_lock.proofs.Common.{arith, sym, ◌∙◌}
use Rattle.board_lock.proofs.Keeps.{retires_as}
use Rattle.board_lock.proofs.lock.Lock.retire.Goals as goal

pub store-requires : goal.store-requires
store-requires g c =
    let sized = c.self.invariant in
    (c.requires.0 ∙ sym c.self.view_is, omega (arith, sized.0), retires_as g.T.Rooted.root _ _ _ _ sized.1 c.requires.1 c.requires.2)
