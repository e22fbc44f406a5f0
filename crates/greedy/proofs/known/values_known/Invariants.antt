use Rattle.greedy.proofs.Common.{◌≡◌, ◌<◌, ℕ, ℤ, pos, length, get_or, Some, None}
use Rattle.greedy.proofs.known.values_known.Given as goal

abbrev pub invariant-loop-day : goal.invariant-loop-day
invariant-loop-day l = record {
  many : length l.values ≡ 8;
  done : (day : ℕ) → day < l.day → (value : ℤ) → get_or l.known day None ≡ Some value → get_or l.values day (pos 0) ≡ value;
}
