-- What contracts see of a state: an instance, posts, and the book that they make.
use Rattle.std.specs.Prelude.{ℕ, List, slice_get}
use Rattle.std.specs.Option.{option_map_or}
use Rattle.shift_instance.specs.Problem.{Problem}
use Rattle.head_splits.specs.Bound.{bound_of}
use Rattle.head_splits.specs.Nodes.{Node, settled_floor}
use Rattle.post_codec.specs.declared.post.Post.{Post}
use Rattle.post_codec.specs.declared.post.Post.TheVariants.{Plan, Priced, Split, Settled}
use Rattle.search_core.specs.declared.outline.NodeState.{NodeState}
use Rattle.search_core.specs.Book.{Book, book_of, opening}

pub record StateView : Type 0 where
  pub instance : Problem
  -- the posts, from the first one on
  pub history : List Post
  -- the book that they make
  pub book : Book
  -- how many posts may be appended without memory
  pub spare : ℕ

-- the book that posts make, and the opening book where they make none
unfoldable pub book_or_opening : Problem → List Post → Book
book_or_opening i posts = option_map_or (λ b. b) (book_of i posts) (opening i)

-- a node without its cuts
abbrev pub state_of : Node → NodeState
state_of n = record { floor = n.floor; split = n.split }

-- a number of the node of that number, and 0 where there is none
abbrev pub number_at : Book → ℕ → (Node → ℕ) → ℕ
number_at b k f = option_map_or f (slice_get b.nodes k) 0

-- the number that goes with a post: what a plan costs, the bound of prices below their node's cuts, the floor of a node that is split, and the floor that a settled node gets
abbrev pub value_of : Problem → Book → Post → ℕ
value_of i b (Plan worker rows c) = c
value_of i b (Priced worker k prices) = number_at b k (λ n. bound_of i n.cuts prices)
value_of i b (Split worker k class m) = number_at b k (λ n. n.floor)
value_of i b (Settled worker k) = number_at b k (λ n. settled_floor i n.cuts)
