use Rattle.greedy.proofs.Common.{◌≡◌, ◌<◌, ℕ, pos, length, get_or, Some, None}
use Rattle.greedy.proofs.known.known_days.Given as goal

abbrev pub invariant-loop-day : goal.invariant-loop-day
invariant-loop-day l = record {
  many : length l.known ≡ 8;
  done : (day : ℕ) → day < l.day → get_or l.known day None ≡ Some (get_or l.values day (pos 0));
}
