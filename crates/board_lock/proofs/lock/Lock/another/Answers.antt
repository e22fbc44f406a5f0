use Rattle.board_lock.proofs.Common.{arith, sym, ◌∙◌}
use Rattle.board_lock.proofs.Keeps.{splits}
use Rattle.board_lock.proofs.lock.Lock.another.Goals as goal

pub split_seat-requires : goal.split_seat-requires
split_seat-requires g c = (c.requires.0 ∙ sym c.self.view_is, omega (arith, c.self.invariant.0), splits g.T.Rooted.root _ _ _ c.requires.2)
