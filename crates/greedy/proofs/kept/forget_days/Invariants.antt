use Rattle.greedy.proofs.Common.{◌≡◌, ◌<◌, ℕ, length, get_or, None, AreKnown, IsKnown}
use Rattle.greedy.proofs.kept.forget_days.Given as goal

abbrev pub invariant-loop-day : goal.invariant-loop-day
invariant-loop-day l = record {
  many : length l.known ≡ 8;
  before : AreKnown l.instance l.old.prices l.shift l.known;
  now : (day : ℕ) → day < l.day → day < l.instance.days → IsKnown l.instance l.new.prices l.shift day (get_or l.known day None);
}
