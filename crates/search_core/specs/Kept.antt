-- What ties an outline to the book that the posts make.
use Rattle.std.specs.Prelude.{◌≡◌, ℕ, ◌+◌, ◌-◌, ◌*◌, ◌/◌, ◌%◌, ◌^◌, ◌<◌, Bool, ◌==◌, List, [], ◌∷◌, ◌++◌, Option, Some, None, map, length, slice_get, if◌then◌else◌}
use Rattle.std.specs.Option.{option_map_or, option_and_then}
use Rattle.shift_instance.specs.declared.Row.{Row}
use Rattle.shift_instance.specs.Problem.{Problem}
use Rattle.shift_instance.specs.Valid.{IsValid}
use Rattle.head_splits.specs.declared.Side.TheVariants.{AtMost, AtLeast}
use Rattle.head_splits.specs.declared.Cut.{Cut}
use Rattle.head_splits.specs.Nodes.{Node}
use Rattle.post_codec.specs.declared.post.Post.{Post}
use Rattle.post_codec.specs.declared.post.Post.TheVariants.{Plan, Priced, Split, Settled}
use Rattle.search_core.specs.Book.{Book, book_of}
use Rattle.search_core.specs.Outline.{OutlineView}
use Rattle.search_core.specs.State.{state_of}

-- the rows of a plan
abbrev pub rows_in : Post → Option (List Row)
rows_in (Plan worker rows c) = Some rows
rows_in (Priced worker k prices) = None
rows_in (Split worker k class m) = None
rows_in (Settled worker k) = None

-- the node that a post splits, and the cut of its first or second part
abbrev pub part_of : Bool → Post → Option (ℕ × Cut)
part_of first (Plan worker rows c) = None
part_of first (Priced worker k prices) = None
part_of first (Split worker k class m) = Some (k, (if first then record { class = class; side = AtMost; m = m } else record { class = class; side = AtLeast; m = m + 1 }))
part_of first (Settled worker k) = None

-- the best rota, by the place of its plan
abbrev pub best_of : List Post → List Row → Option ℕ → Option (List Row)
best_of history none None = Some none
best_of history none (Some at) = option_and_then rows_in (slice_get history at)

-- the cuts of the node of that number, and none where there is no such node
abbrev pub cuts_in : List Node → ℕ → List Cut
cuts_in nodes k = option_map_or (λ n. n.cuts) (slice_get nodes k) []

-- a node that isn't the root is a part of an older node, by the split whose post is at a place
pub record IsPart (history : List Post) (splits : List ℕ) (nodes : List Node) (k : ℕ) : Type 0 where
  pub at : ℕ
  pub part : ℕ × Cut
  pub place : slice_get splits ((k - 1) / 2) ≡ Some at
  pub split : option_and_then (part_of (k % 2 == 1)) (slice_get history at) ≡ Some part
  pub older : part.0 < k
  pub small : part.1.m < 2 ^ 16
  pub cuts : cuts_in nodes k ≡ cuts_in nodes part.0 ++ part.1 ∷ []

-- the outline is that of the book, and the posts make the book
pub record IsKept (i : Problem) (history : List Post) (none : List Row) (o : OutlineView) (b : Book) : Type 0 where
  pub valid : IsValid i
  pub folds : book_of i history ≡ Some b
  pub empty : none ≡ []
  pub best : best_of history none o.best_at ≡ Some b.best
  pub cost : o.cost ≡ b.cost
  pub nodes : o.nodes ≡ map state_of b.nodes
  pub root : cuts_in b.nodes 0 ≡ []
  pub count : length b.nodes ≡ 1 + 2 * length o.splits
  pub parts : (k : ℕ) → 0 < k → k < length b.nodes → IsPart history o.splits b.nodes k
