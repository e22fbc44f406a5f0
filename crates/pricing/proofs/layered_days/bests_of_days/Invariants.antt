use Rattle.pricing.proofs.Common.{◌≡◌, ◌<◌, ℕ, length, sums_on, IsBestBy, best_at}
use Rattle.pricing.proofs.layered_days.bests_of_days.Given as goal

abbrev pub invariant-loop-day : goal.invariant-loop-day
invariant-loop-day l = record {
  many : length l.bests.items ≡ l.day;
  done : (day : ℕ) → day < l.day → IsBestBy l.rule l.len (sums_on day l.lanes) (best_at l.bests.items day);
}
