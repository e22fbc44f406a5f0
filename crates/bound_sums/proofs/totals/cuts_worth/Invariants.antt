use Rattle.bound_sums.proofs.Common.{◌≡◌, ◌≤◌, ◌*◌, ◌^◌, ◌+ℤ◌, unsigned_abs, zip, int_sum_by, cut_worth}
use Rattle.bound_sums.proofs.Pairs.{pairs_from}
use Rattle.bound_sums.proofs.totals.cuts_worth.Given as goal

abbrev pub invariant-loop-k : goal.invariant-loop-k
invariant-loop-k l = record {
  worth : l.sum +ℤ int_sum_by cut_worth (pairs_from l.cuts l.prices l.k) ≡ int_sum_by cut_worth (zip l.cuts l.prices);
  small : unsigned_abs l.sum ≤ l.k * 2 ^ 56;
}
