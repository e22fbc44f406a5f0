use Rattle.report_grafts.proofs.Common.{◌≡◌, ◌++◌, length}
use Rattle.report_grafts.proofs.grafting.add_lines.Given as goal

abbrev pub invariant-loop-line : goal.invariant-loop-line
invariant-loop-line l = l.list.items ++ l.reader ≡ l.fn.list.items ++ l.lines

abbrev pub decreases-loop-line : goal.decreases-loop-line
decreases-loop-line l = length l.reader
