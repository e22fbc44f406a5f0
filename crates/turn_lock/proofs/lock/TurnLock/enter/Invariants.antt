use Rattle.turn_lock.proofs.Common.{◌≡◌}
use Rattle.turn_lock.proofs.lock.TurnLock.enter.Given as goal

abbrev pub invariant-loop : goal.invariant-loop
invariant-loop g l = record {
  next : (goal.iterator-loop g).can_next l.iterator';
  finite : (goal.iterator-loop g).is_finite l.iterator';
  lock : l.place.table_id ≡ l.initial.place.table_id;
  same : l.place.me ≡ l.initial.place.me;
}
