use Rattle.pricing.proofs.Common.{◌≡◌, ◌<◌, ℕ, length, AreSums, sums_on, AreValues}
use Rattle.pricing.proofs.day_values.set_values_by_day.Given as goal

abbrev pub invariant-loop-k : goal.invariant-loop-k
invariant-loop-k l = record {
  many : length l.values.items ≡ l.k;
  known : (day : ℕ) → day < 8 → AreSums l.len (sums_on day l.sums) → AreValues l.rule l.len (sums_on day l.sums) l.graph l.k (sums_on day l.values.items);
}
