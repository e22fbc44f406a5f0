use Rattle.dual_bound.proofs.Common.{◌≡◌, take, enumerate_from}
use Rattle.dual_bound.proofs.day_tables.changes_to.Given as goal

abbrev pub invariant-loop-slot : goal.invariant-loop-slot
invariant-loop-slot l = l.changes.items ≡ enumerate_from 0 (take l.slot l.prices)
