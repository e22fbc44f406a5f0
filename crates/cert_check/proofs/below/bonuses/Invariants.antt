use Rattle.cert_check.proofs.Common.{◌≡◌, ◌≤◌, ◌*◌, ◌+ℤ◌, unsigned_abs, bonuses, duty_with, int_sum_by, bonus, pairs_from}
use Rattle.cert_check.proofs.below.bonuses.Given as goal

abbrev pub invariant-loop-k : goal.invariant-loop-k
invariant-loop-k l = record {
  worth : l.sum +ℤ int_sum_by (bonus (duty_with l.duties.shift l.duties.day l.list)) (pairs_from l.duties.cuts.now l.duties.prices.now l.k) ≡ bonuses l.duties.cuts.now l.duties.prices.now (duty_with l.duties.shift l.duties.day l.list);
  small : unsigned_abs l.sum ≤ l.k * 1000000000000;
}
