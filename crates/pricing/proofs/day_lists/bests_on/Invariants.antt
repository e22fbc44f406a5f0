use Rattle.pricing.proofs.Common.{◌≡◌, ◌<◌, ℕ, length, sums_on, IsBestBy, best_at}
use Rattle.pricing.proofs.day_lists.bests_on.Given as goal

abbrev pub invariant-loop-day : goal.invariant-loop-day
invariant-loop-day l = record {
  many : length l.bests.items ≡ l.day;
  done : (day : ℕ) → day < l.day → IsBestBy l.rests.rule.now l.rests.len (sums_on day l.rests.sums.now) (best_at l.bests.items day);
}
