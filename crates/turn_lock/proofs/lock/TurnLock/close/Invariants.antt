use Rattle.turn_lock.proofs.Common.{◌≡◌, []}
use Rattle.turn_lock.proofs.Seated.{IsGathered}
use Rattle.turn_lock.proofs.lock.TurnLock.close.Given as goal

abbrev pub invariant-loop-seat : goal.invariant-loop-seat
invariant-loop-seat g l = record {
  lock : l.all.table_id ≡ l.fn.self.name;
  free : l.all.me.1 ≡ [];
  gathered : IsGathered l.fn.self.name l.fn.self.seats l.fn.seats.items l.seats.items l.all.me.0;
}

abbrev pub decreases-loop-seat : goal.decreases-loop-seat
decreases-loop-seat g l = goal.left-loop-seat g l
