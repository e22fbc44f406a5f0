use Rattle.carried_rows.proofs.Common.{◌≡◌, ◌++◌, drop, filter, carried_on, fitted, goes_to}
use Rattle.carried_rows.proofs.carrying.carry_on.Given as goal

-- the rows so far and those that fit of what is left are those of all
abbrev pub invariant-loop-row : goal.invariant-loop-row
invariant-loop-row l =
    l.list.items ++ fitted l.shift l.room (filter (goes_to l.new l.before l.shift l.day) (drop l.row-index l.rows))
    ≡ l.fn.list.items ++ carried_on l.new l.rows l.before l.shift l.day
