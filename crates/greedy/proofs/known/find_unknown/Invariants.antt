use Rattle.greedy.proofs.Common.{◌≡◌, ◌<◌, ℕ, length, get_or, Some, None, day_value, AreKnown}
use Rattle.greedy.proofs.known.find_unknown.Given as goal

abbrev pub invariant-loop-day : goal.invariant-loop-day
invariant-loop-day l = record {
  many : length l.known ≡ 8;
  known : AreKnown l.instance l.sums.prices l.shift l.known;
  done : (day : ℕ) → day < l.day → get_or l.known day None ≡ Some (day_value l.instance l.sums.prices l.shift day);
}
