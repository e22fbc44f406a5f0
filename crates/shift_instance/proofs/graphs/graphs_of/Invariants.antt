use Rattle.shift_instance.proofs.Common.{◌≡◌, ◌-◌, length, map, arc_value, AreGraphsOf}
use Rattle.shift_instance.proofs.graphs.graphs_of.Given as goal

abbrev pub invariant-loop-len : goal.invariant-loop-len
invariant-loop-len l = record {
  many : length l.list.items ≡ l.len - l.low;
  made : AreGraphsOf l.kind (map arc_value l.list.items);
}
