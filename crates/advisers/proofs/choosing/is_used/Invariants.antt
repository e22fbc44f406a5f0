use Rattle.advisers.proofs.Common.{◌≡◌, ◌≤◌, ◌*◌, ◌^◌, nat_lt, unsigned_abs, list_any, int_sum_by, below, low, whole_class, free_day_value}
use Rattle.advisers.proofs.choosing.is_used.Given as goal

abbrev pub invariant-loop-day : goal.invariant-loop-day
invariant-loop-day l = record {
  forced : l.is_forced ≡ list_any (λ day. nat_lt 0 (low l.cuts (whole_class l.shift day))) (below l.day);
  worth : l.free ≡ int_sum_by (free_day_value l.instance l.cuts l.pricer.prices l.shift) (below l.day);
  small : unsigned_abs l.free ≤ l.day * 2 ^ 90;
}
