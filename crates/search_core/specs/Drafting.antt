-- The posts of a step, with the numbers that go with them, as they are drafted one after another.
use Rattle.std.specs.Prelude.{◌≡◌, ℕ, ◌≤◌, Bool, nat_lt, max, List, [], ◌∷◌, Option, Some, length, slice_get, if◌then◌else◌, true}
use Rattle.std.specs.Option.{option_map_or}
use Rattle.shift_instance.specs.Problem.{Problem}
use Rattle.head_splits.specs.declared.Cut.{Cut}
use Rattle.head_splits.specs.Nodes.{Node}
use Rattle.rota_cost.specs.Costed.{Costing}
use Rattle.post_codec.specs.declared.post.Post.{Post}
use Rattle.post_codec.specs.Spelling.{CanSpellPost}
use Rattle.search_core.specs.declared.step_posts.StepPosts.{StepPosts}
use Rattle.search_core.specs.Board.{floor_of_node, leaves_open}
use Rattle.search_core.specs.Book.{Book, book_after, step}
use Rattle.search_core.specs.State.{value_of}
use Rattle.search_core.specs.Steps.{after_step, posts_of}
use Rattle.search_core.specs.declared.drafting.StepDraft.{StepDraft}

-- the book that posts make: each is allowed after those before it, the number in its place goes with it, and it has a spelling
abbrev pub Makes : Problem → Book → List Post → List ℕ → Book → Type 0
Makes i b [] [] c = b ≡ c
Makes i b [] (v ∷ values) c = ⊥
Makes i b (p ∷ posts) [] c = ⊥
Makes i b (p ∷ posts) (v ∷ values) c = (n : Book) × (step i b p ≡ Some n) × (v ≡ value_of i b p) × CanSpellPost p × Makes i n posts values c

-- a worker's step as it is drafted: its posts, with the numbers that go with them, the best cost after them, and the node's floor
pub record Drafts (i : Problem) (b : Book) (w : ℕ) (step : StepPosts) (draft : StepDraft) : Type 0 where
  pub posts : draft.posts.items ≡ posts_of i b w step
  pub makes : Makes i b draft.posts.items draft.values.items (after_step i b w step)
  pub best : draft.best ≡ (after_step i b w step).cost
  pub floor : draft.floor ≡ floor_of_node (after_step i b w step) step.node
  pub few : length draft.posts.items ≤ 4

-- after posts for a node of a book: the best cost, and the node, with these cuts and that floor, split or not
pub record IsAfter (i : Problem) (b : Book) (k : ℕ) (cuts : List Cut) (posts : List Post) (best floor : ℕ) (split : Bool) : Type 0 where
  pub after : Book
  pub folds : book_after i b posts ≡ Some after
  pub best_is : best ≡ after.cost
  pub node : Node
  pub at : slice_get after.nodes k ≡ Some node
  pub cuts_are : node.cuts ≡ cuts
  pub floor_is : floor ≡ node.floor
  pub split_is : node.split ≡ split

-- a draft of these posts, with the numbers that go with them
pub record IsDraft (i : Problem) (b : Book) (k : ℕ) (cuts : List Cut) (posts : List Post) (draft : StepDraft) (split : Bool) : Type 0 where
  pub posts_are : draft.posts.items ≡ posts
  pub made : (c : Book) × Makes i b draft.posts.items draft.values.items c
  pub state : IsAfter i b k cuts posts draft.best draft.floor split

-- the best cost after a plan, where there is one
abbrev pub best_with : Option Costing → ℕ → ℕ
best_with plan best = option_map_or (λ p. if nat_lt p.cost best then p.cost else best) plan best

-- the floor of a node after its price, which is posted where the node is open
abbrev pub floor_with : (bound best floor : ℕ) → ℕ
floor_with bound best floor = if nat_lt floor best then max floor bound else floor

-- a step leaves its node open, with that floor and below that best cost
abbrev pub LeavesOpen : Problem → Book → ℕ → StepPosts → ℕ → ℕ → Type 0
LeavesOpen i b w step floor best =
    (leaves_open i b w step ≡ true) × (floor ≡ floor_of_node (after_step i b w step) step.node) × (best ≡ (after_step i b w step).cost)
