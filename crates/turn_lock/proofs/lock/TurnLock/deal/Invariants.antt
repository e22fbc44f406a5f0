use Rattle.turn_lock.proofs.Common.{◌≡◌, ◌≤◌, ◌-◌, [], vec_capacity, vec_len, new_seats, making}
use Rattle.turn_lock.proofs.lock.TurnLock.deal.Given as goal

abbrev pub invariant-loop-number : goal.invariant-loop-number
invariant-loop-number g l = record {
  lock : l.first.table_id ≡ l.fn.first.table_id;
  maker : l.first.me ≡ (making l.fn.first.me.0.root l.others l.number (l.others - l.number), []);
  made : l.made.items ≡ new_seats l.fn.first.table_id l.fn.first.me.0.root 0 l.number;
  count : vec_len l.made ≡ l.number;
  room : vec_capacity l.made ≡ vec_capacity l.fn.made;
  within : l.number ≤ l.others;
}
