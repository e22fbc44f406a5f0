use Rattle.report_joins.proofs.Common.{◌≡◌, ◌<◌, ◌∷◌, ◌++◌, length, map, grafted_line}
use Rattle.report_joins.proofs.parts.run_lines.Given as goal

abbrev pub invariant-loop-run : goal.invariant-loop-run
invariant-loop-run l = record {
  so : l.fn.first ∷ l.fn.rest ≡ map (grafted_line l.place.node l.place.splits) l.run.items ++ l.reader;
  some : 0 < length l.run.items;
}

abbrev pub decreases-loop-run : goal.decreases-loop-run
decreases-loop-run l = length l.reader
