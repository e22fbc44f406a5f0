-- The nodes of a graph, whose edges lie one behind another in one list.
use Rattle.std.specs.Prelude.{◌≡◌, ◌≤◌, ℕ, List, [], ◌∷◌, map, length, slice_index_or, slice_range}
use Rattle.break_graph.specs.declared.Edge.{Edge}
use Rattle.break_graph.specs.declared.FlatNode.{FlatNode}
use Rattle.break_graph.specs.declared.Node.{Node}

-- the nodes with their edges, where those of the first begin at a place
abbrev pub nodes_from : ℕ → List FlatNode → List Edge → List Node
nodes_from begin [] edges = []
nodes_from begin (n ∷ ns) edges = record { spot = n.spot; edges = slice_range edges begin n.end } ∷ nodes_from n.end ns edges

-- the edges of each node end no earlier than they begin, and those of the last one at the end of the list
abbrev pub AreFlat : ℕ → List FlatNode → List Edge → Type 0
AreFlat begin [] edges = begin ≡ length edges
AreFlat begin (n ∷ ns) edges = (begin ≤ n.end) × AreFlat n.end ns edges

-- where the edges of the node of a number begin
abbrev pub begin_at : List FlatNode → ℕ → ℕ
begin_at nodes k = slice_index_or (0 ∷ map (λ n. n.end) nodes) k 0
