-- What is kept of a book beside its posts.
use Rattle.std.specs.Prelude.{ℕ, ◌-◌, ◌<◌, ⊤, false, true, List, [], ◌∷◌, ◌++◌, Option, Some, max, length, slice_get, slice_set}
use Rattle.std.specs.Option.{option_map_or}
use Rattle.post_codec.specs.declared.post.Post.{Post}
use Rattle.post_codec.specs.declared.post.Post.TheVariants.{Plan, Priced, Split, Settled}
use Rattle.search_core.specs.declared.outline.NodeState.{NodeState}

pub record OutlineView : Type 0 where
  -- each node's floor, and whether it is split
  pub nodes : List NodeState
  -- the places of the posts that split nodes
  pub splits : List ℕ
  -- the place of the post with the best rota, and none where that is the empty rota
  pub best_at : Option ℕ
  -- what the best rota costs
  pub cost : ℕ
  -- for how many posts there is room
  pub spare : ℕ

-- the floor of a node by its number, and 0 where there is none
abbrev pub floor_at : List NodeState → ℕ → ℕ
floor_at nodes k = option_map_or (λ n. n.floor) (slice_get nodes k) 0

abbrev pub unsplit_node : ℕ → NodeState
unsplit_node floor = record { floor = floor; split = false }

abbrev pub split_node : ℕ → NodeState
split_node floor = record { floor = floor; split = true }

-- an outline after a plan that becomes best, an unsplit node's new floor, and a split of a node with that floor
abbrev pub with_best : OutlineView → ℕ → ℕ → OutlineView
with_best o at cost = record o { best_at = Some at; cost = cost; spare = o.spare - 1 }

abbrev pub with_floor : OutlineView → ℕ → ℕ → OutlineView
with_floor o k floor = record o { nodes = slice_set o.nodes k (unsplit_node floor); spare = o.spare - 1 }

abbrev pub with_split : OutlineView → ℕ → ℕ → ℕ → OutlineView
with_split o k floor at = record o { nodes = slice_set o.nodes k (split_node floor) ++ unsplit_node floor ∷ unsplit_node floor ∷ []; splits = o.splits ++ at ∷ []; spare = o.spare - 1 }

-- an outline after a post at a place, with the number that goes with it
abbrev pub acted : OutlineView → Post → ℕ → ℕ → OutlineView
acted o (Plan worker rows c) value at = with_best o at value
acted o (Priced worker k prices) value at = with_floor o k (max (floor_at o.nodes k) value)
acted o (Split worker k class m) value at = with_split o k value at
acted o (Settled worker k) value at = with_floor o k value

-- the node that a post names, if any, is there
abbrev pub IsThere : List NodeState → Post → Type 0
IsThere nodes (Plan worker rows c) = ⊤
IsThere nodes (Priced worker k prices) = k < length nodes
IsThere nodes (Split worker k class m) = k < length nodes
IsThere nodes (Settled worker k) = k < length nodes
