use Rattle.bound_sums.proofs.Common.{◌≡◌, ◌<◌, ℕ, length, price_of, mark}
use Rattle.bound_sums.proofs.changes.change_marks.Given as goal

abbrev pub invariant-loop-slot : goal.invariant-loop-slot
invariant-loop-slot l = record {
  many : length l.marks.items ≡ l.slot;
  each : (t : ℕ) → t < l.slot → price_of l.marks.items t ≡ mark (price_of l.old t) (price_of l.new t);
}
