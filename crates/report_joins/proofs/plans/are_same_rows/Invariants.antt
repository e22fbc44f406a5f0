use Rattle.report_joins.proofs.Common.{◌≡◌, ◌≤◌, ◌-◌, length, take}
use Rattle.report_joins.proofs.plans.are_same_rows.Given as goal

abbrev pub invariant-loop-at : goal.invariant-loop-at
invariant-loop-at l = (take l.at l.rows ≡ take l.at l.others) × (l.at ≤ length l.rows)

abbrev pub decreases-loop-at : goal.decreases-loop-at
decreases-loop-at l = length l.rows - l.at
