use Rattle.short_slots.proofs.Common.{ℕ, pos, ◌<◌, ◌≤◌, get_or, unsigned_abs}
use Rattle.short_slots.proofs.working.greatest_of.Given as goal

abbrev pub invariant-loop-day : goal.invariant-loop-day
invariant-loop-day l = record {
  each : (day : ℕ) → day < l.day → unsigned_abs (get_or l.lane day (pos 0)) ≤ l.greatest;
  least : (n : ℕ) → ((day : ℕ) → day < l.day → unsigned_abs (get_or l.lane day (pos 0)) ≤ n) → l.greatest ≤ n;
}
