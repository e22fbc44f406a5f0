use Rattle.report_joins.proofs.Common.{◌≡◌, ◌++◌, length}
use Rattle.report_joins.proofs.joining.lines_of.Given as goal

abbrev pub invariant-loop-list : goal.invariant-loop-list
invariant-loop-list l = l.list.items ++ l.reader ≡ l.lines

abbrev pub decreases-loop-list : goal.decreases-loop-list
decreases-loop-list l = length l.reader
