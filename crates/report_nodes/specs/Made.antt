-- Nodes whose bounds can be found, and nodes that were made below one of others.
use Rattle.std.specs.Prelude.{ℕ, ◌≤◌, ◌^◌, List, [], ◌∷◌, ◌++◌, All, length, slice_set}
use Rattle.head_splits.specs.Nodes.{Node}

-- no node has more cuts than can be priced
abbrev pub HasFewCuts : List Node → Type 0
HasFewCuts nodes = All (λ n. length n.cuts ≤ 2 ^ 33) nodes

-- nor has it after further lines
abbrev pub HasRoom : List Node → Type 0
HasRoom nodes = All (λ n. length n.cuts ≤ 2 ^ 32) nodes

-- nodes, and those that lines made of the node at k alone: the first of these is that node, and the others stand behind
abbrev pub with_below : List Node → ℕ → List Node → List Node
with_below nodes k [] = nodes
with_below nodes k (n ∷ below) = slice_set nodes k n ++ below
