-- The cuts of the nodes of a search, by number, as its splits make them.
use Rattle.std.specs.Prelude.{ℕ, ◌+◌, ◌&&◌, nat_lt, List, [], ◌∷◌, ◌++◌, fold, length, slice_get, if◌then◌else◌}
use Rattle.std.specs.Option.{option_map_or}
use Rattle.head_splits.specs.declared.Class.{Class}
use Rattle.head_splits.specs.declared.Cut.{Cut}
use Rattle.head_splits.specs.declared.Side.TheVariants.{AtMost, AtLeast}
use Rattle.post_codec.specs.declared.post.Post.{Post}
use Rattle.post_codec.specs.declared.post.Post.TheVariants.{Plan, Priced, Split, Settled}

-- the cuts of the node of that number, and none where there is no such node
abbrev pub cuts_at : List (List Cut) → ℕ → List Cut
cuts_at nodes k = option_map_or (λ cuts. cuts) (slice_get nodes k) []

-- the nodes and the two parts of one of them, split by the number of a class: at most m, or at least m + 1
abbrev pub with_parts : List (List Cut) → ℕ → Class → ℕ → List (List Cut)
with_parts nodes k class m =
    nodes
    ++ (cuts_at nodes k ++ record { class = class; side = AtMost; m = m } ∷ [])
    ∷ (cuts_at nodes k ++ record { class = class; side = AtLeast; m = m + 1 } ∷ [])
    ∷ []

-- the same where the node is there and m isn't the greatest number of its type, which no book allows
abbrev pub divided : List (List Cut) → ℕ → Class → ℕ → List (List Cut)
divided nodes k class m = if nat_lt k (length nodes) && nat_lt m 65535 then with_parts nodes k class m else nodes

-- the nodes after a post
abbrev pub nodes_after : List (List Cut) → Post → List (List Cut)
nodes_after nodes (Plan worker rows c) = nodes
nodes_after nodes (Priced worker k prices) = nodes
nodes_after nodes (Split worker k class m) = divided nodes k class m
nodes_after nodes (Settled worker k) = nodes

-- the nodes that posts make of the root
abbrev pub nodes_of : List Post → List (List Cut)
nodes_of posts = fold nodes_after ([] ∷ []) posts
