use Rattle.pricing.proofs.Common.{◌≡◌, ◌+ℤ◌, drop, earned_from, price_in, Spaced}
use Rattle.pricing.proofs.rests.earned_along.Given as goal

abbrev pub invariant-loop-stop : goal.invariant-loop-stop
invariant-loop-stop l = record {
  same : l.resettle ≡ l.rule.resettle;
  spaced : Spaced l.rule l.from l.len (drop l.stop-index l.list);
  sum : l.sum +ℤ earned_from (price_in l.sums) l.rule l.len l.from (drop l.stop-index l.list) ≡ earned_from (price_in l.sums) l.rule l.len 0 l.list;
}
