use Rattle.break_graph.proofs.Common.{◌≡◌, take, Has, Edge}
use Rattle.break_graph.proofs.behind.edge_with.Given as goal

abbrev pub invariant-loop-edge : goal.invariant-loop-edge
invariant-loop-edge l = record { others : (e : Edge) → Has (take l.edge-index l.edges) e → e.stop ≡ l.stop → ⊥ }
