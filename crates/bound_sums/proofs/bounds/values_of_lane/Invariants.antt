use Rattle.bound_sums.proofs.Common.{◌≡◌, ◌<◌, ℕ, pos, length, get_or}
use Rattle.bound_sums.proofs.bounds.values_of_lane.Given as goal

abbrev pub invariant-loop-day : goal.invariant-loop-day
invariant-loop-day l = record {
  many : length l.values ≡ 8;
  done : (day : ℕ) → day < l.day → get_or l.values day (pos 0) ≡ get_or l.lane day (pos 0);
}
