use Rattle.report_grafts.proofs.Common.{◌≡◌, ◌<◌, ◌+◌, ◌*◌, ◌^◌, ◌++◌, length, map, All, node_of, grafted_line}
use Rattle.report_grafts.proofs.grafting.add_grafted.Given as goal

abbrev pub invariant-loop-line : goal.invariant-loop-line
invariant-loop-line l = record {
  added : l.list.items ++ map (grafted_line l.place.node l.place.splits) l.reader ≡ l.fn.list.items ++ map (grafted_line l.place.node l.place.splits) l.lines;
  fit : All (λ line. node_of line + 2 * l.place.splits < 2 ^ 32) l.reader;
}

abbrev pub decreases-loop-line : goal.decreases-loop-line
decreases-loop-line l = length l.reader
