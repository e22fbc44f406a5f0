-- The nodes that a checker keeps.
use Rattle.std.specs.Prelude.{◌≡◌, ℕ, ◌<◌, List, [], ◌∷◌, ◌++◌, Option, Some, None, MatchOption, fold, slice_get}
use Rattle.std.specs.Option.{option_map_or}
use Rattle.head_splits.specs.declared.Cut.{Cut}
use Rattle.head_splits.specs.Nodes.{Node}
use Rattle.cert_check.specs.declared.tree.KeptNode.{KeptNode}
use Rattle.cert_check.specs.declared.tree.Part.{Part}

-- the cuts of the node of that number, and none where there is no such node
abbrev pub cuts_at : List Node → ℕ → List Cut
cuts_at nodes k = option_map_or (λ n. n.cuts) (slice_get nodes k) []

-- the cuts of a part of one of some nodes: those of that node, and one more. The root isn't a part, and has none
abbrev pub cuts_with : List Node → Option Part → List Cut
cuts_with nodes None = []
cuts_with nodes (Some p) = cuts_at nodes p.above ++ p.cut ∷ []

-- a node that is kept, by the nodes before it
abbrev pub node_with : List Node → KeptNode → Node
node_with nodes n = record { cuts = cuts_with nodes n.part; floor = n.floor; split = n.split }

-- the nodes that are kept, one after another
abbrev pub nodes_in : List KeptNode → List Node
nodes_in kept = fold (λ nodes n. nodes ++ node_with nodes n ∷ []) [] kept

-- each node is a part of an older one, if of any
abbrev pub ArePartsOlder : List KeptNode → Type 0
ArePartsOlder kept = (k : ℕ) (n : KeptNode) (p : Part) → slice_get kept k ≡ Some n → n.part ≡ Some p → p.above < k

-- the number of the node above a node and the cut that it has beside those of that node, and none where it has no cut
abbrev pub IsCutAbove : List Node → ℕ → Option (ℕ × Cut) → Type 0
IsCutAbove nodes k above = MatchOption above (cuts_at nodes k ≡ []) (λ p. (p.0 < k) × (cuts_at nodes k ≡ cuts_at nodes p.0 ++ p.1 ∷ []))
