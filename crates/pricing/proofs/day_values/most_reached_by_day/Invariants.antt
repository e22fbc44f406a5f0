use Rattle.pricing.proofs.Common.{ℕ, ◌<◌, sum_at, sums_on, reach_of, AreFit}
use Rattle.pricing.proofs.Most.{IsMostBefore}
use Rattle.pricing.proofs.day_values.most_reached_by_day.Given as goal

abbrev pub invariant-loop-edge : goal.invariant-loop-edge
invariant-loop-edge l = record {
  most : (day : ℕ) → day < 8 → AreFit (reach_of (sums_on day l.sums) (sums_on day l.values)) l.edges → IsMostBefore (reach_of (sums_on day l.sums) (sums_on day l.values)) l.edges l.edge-index (sum_at l.most day);
}
