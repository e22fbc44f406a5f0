use Rattle.shift_instance.proofs.Common.{◌≡◌, length, AreGraphs}
use Rattle.shift_instance.proofs.graphs.type_graphs.Given as goal

abbrev pub invariant-loop-kind : goal.invariant-loop-kind
invariant-loop-kind l = record {
  many : length l.graphs.items ≡ l.kind-index;
  made : AreGraphs l.kinds l.graphs.items;
}
