use Rattle.break_graph.proofs.Common.{◌≡◌, ℕ, ◌++◌, ◌<◌, List, Break, nexts_of, spot_of, Has, Edge, AreBelow, edges_by}
use Rattle.break_graph.proofs.building.edges_at.Given as goal

abbrev pub invariant-loop-next : goal.invariant-loop-next
invariant-loop-next l = record {
  can_next : (goal.iterator-loop-next).can_next l.next-iterator;
  is_finite : (goal.iterator-loop-next).is_finite l.next-iterator;
  whole : l.yielded ++ l.next-iterator ≡ nexts_of l.rule l.len l.fn.spot;
  exact : (list : List Break) → l.fn.spot ≡ spot_of l.rule list → l.edges.items ≡ edges_by l.rule l.len l.numbers list l.yielded;
  back : (bound : ℕ) → AreBelow bound l.numbers → (e : Edge) → Has l.edges.items e → e.next < bound;
}
