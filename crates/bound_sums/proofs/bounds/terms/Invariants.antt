use Rattle.bound_sums.proofs.Common.{◌≡◌, ◌≤◌, ◌*◌, ◌^◌, unsigned_abs, int_sum_by, below, term}
use Rattle.bound_sums.proofs.bounds.terms.Given as goal

abbrev pub invariant-loop-shift : goal.invariant-loop-shift
invariant-loop-shift g l = record {
  serves : g.V.DayValues.serves l.values l.instance l.cuts l.prices;
  sum : l.sum ≡ int_sum_by (term l.instance l.cuts l.prices) (below l.shift);
  small : unsigned_abs l.sum ≤ l.shift * 2 ^ 94;
}
