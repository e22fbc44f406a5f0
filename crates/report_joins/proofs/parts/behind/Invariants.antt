use Rattle.report_joins.proofs.Common.{◌≡◌, ◌++◌, take}
use Rattle.report_joins.proofs.parts.behind.Given as goal

abbrev pub invariant-loop-at : goal.invariant-loop-at
invariant-loop-at l = l.lines ≡ take l.at l.known ++ l.reader
