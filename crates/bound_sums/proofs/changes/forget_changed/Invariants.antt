use Rattle.bound_sums.proofs.Common.{◌≡◌, ◌<◌, ℕ, length, get_or, None, IsKept, KeepsEach}
use Rattle.bound_sums.proofs.changes.forget_changed.Given as goal

abbrev pub invariant-loop-shift : goal.invariant-loop-shift
invariant-loop-shift l = record {
  places : length l.known ≡ length l.fn.known;
  before : KeepsEach l.instance l.old l.known;
  now : (s : ℕ) → s < l.shift → IsKept l.instance l.new s (get_or l.known s None);
}
