use Rattle.carried_rows.proofs.Common.{◌≡◌, ◌++◌, flat_map, below, carried_on}
use Rattle.carried_rows.proofs.carrying.carry_to.Given as goal

abbrev pub invariant-loop-day : goal.invariant-loop-day
invariant-loop-day l = l.list.items ≡ l.fn.list.items ++ flat_map (carried_on l.new l.rows l.before l.shift) (below l.day)
