use Rattle.report_grafts.proofs.Common.{◌≡◌, ◌++◌, length, branches_of}
use Rattle.report_grafts.proofs.branches.branches_of.Given as goal

abbrev pub invariant-loop-branches : goal.invariant-loop-branches
invariant-loop-branches l = branches_of l.lines ≡ l.branches.items ++ branches_of l.reader

abbrev pub decreases-loop-branches : goal.decreases-loop-branches
decreases-loop-branches l = length l.reader
