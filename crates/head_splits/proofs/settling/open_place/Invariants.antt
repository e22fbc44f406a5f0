use Rattle.head_splits.proofs.Common.{◌≡◌, ℕ, ◌<◌, false, nat_lt, take, low, high, class_of}
use Rattle.head_splits.proofs.settling.open_place.Given as goal

abbrev pub invariant-loop-stop : goal.invariant-loop-stop
invariant-loop-stop l = record {
  shift : l.place.shift ≡ l.duty.shift;
  day : l.place.day ≡ l.duty.day;
  prefix : l.place.prefix.items ≡ take l.stop-index l.duty.breaks;
  fixed : (n : ℕ) → n < l.stop-index → nat_lt (low l.cuts (class_of l.duty.shift l.duty.day (take n l.duty.breaks))) (high l.instance l.cuts (class_of l.duty.shift l.duty.day (take n l.duty.breaks))) ≡ false;
}
