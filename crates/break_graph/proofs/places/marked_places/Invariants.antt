use Rattle.break_graph.proofs.Common.{◌≡◌, ◌-◌, ◌+◌, ◌*◌, [], length, IsMarked, AreReached}
use Rattle.break_graph.proofs.Marks.{AreMarkedBehind}
use Rattle.break_graph.proofs.places.marked_places.Given as goal

abbrev pub invariant-loop-done : goal.invariant-loop-done
invariant-loop-done l = record {
  many : length l.table.items ≡ 256 * (l.len + 1);
  opening : IsMarked l.rule l.len l.table.items [];
  reached : AreReached l.rule l.len l.table.items;
  behind : AreMarkedBehind l.rule l.len (256 * (l.len + 1) - l.done) l.table.items;
}
