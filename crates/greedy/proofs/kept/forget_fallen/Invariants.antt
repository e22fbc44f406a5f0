use Rattle.greedy.proofs.Common.{◌≡◌, ◌<◌, ◌≤◌, ℕ, [], length, get_or, shift_list, AreKnown}
use Rattle.greedy.proofs.kept.forget_fallen.Given as goal

abbrev pub invariant-loop-shift : goal.invariant-loop-shift
invariant-loop-shift l = record {
  places : length l.known ≡ length (shift_list l.instance);
  before : (s : ℕ) → l.shift ≤ s → s < length (shift_list l.instance) → AreKnown l.instance l.old.prices s (get_or l.known s []);
  now : (s : ℕ) → s < l.shift → AreKnown l.instance l.new.prices s (get_or l.known s []);
}
