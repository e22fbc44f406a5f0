use Rattle.dual_bound.proofs.Common.{◌≡◌, length, AreValues}
use Rattle.dual_bound.proofs.terms.values_by_lists.Given as goal

abbrev pub invariant-loop-day : goal.invariant-loop-day
invariant-loop-day l = record {
  many : length l.values ≡ 8;
  done : AreValues l.instance l.cuts l.prices l.shift l.day l.values;
}
