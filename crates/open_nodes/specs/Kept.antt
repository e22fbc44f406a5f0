-- How open nodes lie in a heap.
use Rattle.std.specs.Prelude.{◌≡◌, ℕ, ◌+◌, ◌≤◌, List, [], ◌∷◌, length}
use Rattle.std.specs.declared.cmp.Ordering.{Ordering}
use Rattle.std.specs.declared.cmp.Reverse.{Reverse}
use Rattle.std.specs.BinaryHeap.{IsHeap}
use Rattle.std.specs.Ordering.{nat_cmp, ordering_then}
use Rattle.open_nodes.specs.Listed.{Entry, with_entry}

-- the order of the heap, whose greatest element is the node to take first
abbrev pub heap_cmp : Reverse Entry → Reverse Entry → Ordering
heap_cmp x y = ordering_then (nat_cmp y.0.0 x.0.0) (nat_cmp y.0.1 x.0.1)

-- the nodes of a heap in their order, each once
abbrev pub in_order : List (Reverse Entry) → List Entry
in_order [] = []
in_order (x ∷ items) = with_entry x.0 (in_order items)

-- what the heap keeps: it is one, it has room for so many more, and no node stands in it twice
pub record IsKept (items : List (Reverse Entry)) (spare len capacity : ℕ) : Type 0 where
  pub heap : IsHeap heap_cmp items
  pub room : len + spare ≤ capacity
  pub once : length (in_order items) ≡ length items
