use Rattle.dual_bound.proofs.Common.{AreBestsBelow}
use Rattle.dual_bound.proofs.pricer.all_bests.Given as goal

abbrev pub invariant-loop-shift : goal.invariant-loop-shift
invariant-loop-shift l = AreBestsBelow l.instance l.cuts l.prices l.shift l.shifts.items
