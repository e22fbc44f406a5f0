use Rattle.report_nodes.proofs.Common.{◌≡◌, length}
use Rattle.report_nodes.proofs.Grown.{Grows}
use Rattle.report_nodes.proofs.growing.lines_after.Given as goal

abbrev pub invariant-loop-buffers : goal.invariant-loop-buffers
invariant-loop-buffers l = record {
  grows : Grows l.instance l.fn.nodes.items l.lines l.reader l.nodes.items;
  buffers : l.buffers ≡ l.instance;
}

abbrev pub decreases-loop-buffers : goal.decreases-loop-buffers
decreases-loop-buffers l = length l.reader
