use Rattle.bound_sums.proofs.Common.{◌≡◌, ◌≤◌, ◌*◌, unsigned_abs, int_sum_by, below, price_of, worth_at}
use Rattle.bound_sums.proofs.totals.slots_worth.Given as goal

abbrev pub invariant-loop-t : goal.invariant-loop-t
invariant-loop-t l = record {
  worth : l.sum ≡ int_sum_by (λ k. worth_at l.instance k (price_of l.prices k)) (below l.t);
  small : unsigned_abs l.sum ≤ l.t * 100000000000000;
}
