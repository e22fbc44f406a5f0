use Rattle.bound_sums.proofs.Common.{◌≡◌, ◌≤◌, ◌*◌, ◌^◌, nat_lt, unsigned_abs, list_any, int_sum_by, below, low, whole_class, day_value, free_day_value}
use Rattle.bound_sums.proofs.terms.term.Given as goal

abbrev pub invariant-loop-day : goal.invariant-loop-day
invariant-loop-day l = record {
  forced : l.is_forced ≡ list_any (λ day. nat_lt 0 (low l.cuts (whole_class l.shift day))) (below l.day);
  worth : l.ranged ≡ int_sum_by (day_value l.instance l.cuts l.prices l.shift) (below l.day);
  free_worth : l.free ≡ int_sum_by (free_day_value l.instance l.cuts l.prices l.shift) (below l.day);
  small : unsigned_abs l.ranged ≤ l.day * 2 ^ 90;
  free_small : unsigned_abs l.free ≤ l.day * 2 ^ 90;
}
