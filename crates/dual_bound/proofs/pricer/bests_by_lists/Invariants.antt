use Rattle.dual_bound.proofs.Common.{AreBests}
use Rattle.dual_bound.proofs.pricer.bests_by_lists.Given as goal

abbrev pub invariant-loop-day : goal.invariant-loop-day
invariant-loop-day l = AreBests l.instance l.cuts l.prices l.shift l.day l.bests.items
