use Rattle.bound_sums.proofs.Common.{◌≡◌, ◌≤◌, ◌*◌, ◌^◌, length, unsigned_abs, int_sum_by, below, term, KeepsEach}
use Rattle.bound_sums.proofs.kept.kept_terms.Given as goal

abbrev pub invariant-loop-shift : goal.invariant-loop-shift
invariant-loop-shift g l = record {
  serves : g.V.DayValues.serves l.values l.instance l.cuts l.prices;
  places : length l.known ≡ length l.fn.known;
  kept : KeepsEach l.instance l.prices.slots l.known;
  sum : l.sum ≡ int_sum_by (term l.instance l.cuts l.prices) (below l.shift);
  small : unsigned_abs l.sum ≤ l.shift * 2 ^ 94;
}
