use Rattle.report_joins.proofs.Common.{◌≡◌, ◌<◌, ◌+◌, ◌*◌, ◌^◌, ◌++◌, length, map, All, node_of, grafted_line}
use Rattle.report_joins.proofs.joining.with_run.Given as goal

abbrev pub invariant-loop-lines : goal.invariant-loop-lines
invariant-loop-lines l = record {
  added : l.lines.items ++ map (grafted_line l.place.node l.place.splits) l.reader ≡ l.fn.lines.items ++ map (grafted_line l.place.node l.place.splits) l.run;
  fit : All (λ line. node_of line + 2 * l.place.splits < 2 ^ 32) l.reader;
}

abbrev pub decreases-loop-lines : goal.decreases-loop-lines
decreases-loop-lines l = length l.reader
