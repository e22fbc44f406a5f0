-- The book of a search, as its posts make it: the best rota so far, and nodes with their cuts and floors.
-- Source: branch and bound, after Land and Doig 1960; the kinds of posts and when they are allowed are this project's profile.
use Rattle.std.specs.Prelude.{ℕ, ◌≡◌, ◌≤◌, ◌⊎◌, Bool, false, IsTrue, IsFalse, ◌&&◌, not, ◌==◌, nat_lt, nat_le, List, [], ◌∷◌, Option, Some, None, All, Any, min, max, fold, slice_get, if◌then◌else◌}
use Rattle.std.specs.Option.{option_map_or, option_and_then}
use Rattle.std.specs.List.{list_all}
use Rattle.shift_instance.specs.declared.Row.{Row}
use Rattle.shift_instance.specs.Problem.{Problem}
use Rattle.shift_instance.specs.Rota.{cost, rota_of, are_legal_rows}
use Rattle.head_splits.specs.declared.Class.{Class}
use Rattle.head_splits.specs.declared.Prices.{Prices}
use Rattle.head_splits.specs.Cuts.{low, high}
use Rattle.head_splits.specs.Bound.{are_prices, bound_of}
use Rattle.head_splits.specs.Settled.{is_live_class, is_settled}
use Rattle.head_splits.specs.Nodes.{Node, new_node, with_floor, with_split, settled_floor, AreSound}
use Rattle.post_codec.specs.declared.post.Post.{Post}
use Rattle.post_codec.specs.declared.post.Post.TheVariants.{Plan, Priced, Split, Settled}

-- a book: the best rota so far, as rows, with its cost, and the nodes by number
pub record Book : Type 0 where
  pub best : List Row
  pub cost : ℕ
  pub nodes : List Node

-- the opening book: the empty rota, and one node without cuts
abbrev pub opening : Problem → Book
opening i = record { best = []; cost = cost i []; nodes = new_node [] ∷ [] }

-- whether a node is open: unsplit, and with a floor below the best cost
abbrev pub is_open : Book → Node → Bool
is_open b n = not n.split && nat_lt n.floor b.cost

-- a fact of the node of that number, and false where there is none
abbrev pub is_node_and : Book → ℕ → (Node → Bool) → Bool
is_node_and b k p = option_map_or p (slice_get b.nodes k) false

-- whether a book is finished: no node is open
abbrev pub is_finished : Book → Bool
is_finished b = list_all (λ n. not (is_open b n)) b.nodes

-- a book's floor: the least of the best cost and the floors of all unsplit nodes
abbrev pub floor_of : Book → ℕ
floor_of b = fold (λ f n. if n.split then f else min f n.floor) b.cost b.nodes

-- that least number, by what it is least of
pub record IsLeastFloor (b : Book) (floor : ℕ) : Type 0 where
  pub below_cost : floor ≤ b.cost
  pub below_floors : All (λ n. IsFalse n.split → floor ≤ n.floor) b.nodes
  pub reached : (floor ≡ b.cost) ⊎ Any (λ n. IsFalse n.split × (floor ≡ n.floor)) b.nodes

-- whether a plan is better than the best: its rows are legal, cost exactly that much, and less
abbrev pub is_better : Problem → Book → List Row → ℕ → Bool
is_better i b rows c = are_legal_rows i rows && (cost i (rota_of rows) == c) && nat_lt c b.cost

-- the nodes after the unsplit node at k is priced: its floor is the bound of the prices below its cuts, where that is higher
abbrev pub priced : Problem → Book → ℕ → Prices → Node → Option (List Node)
priced i b k prices n =
    if not n.split && are_prices i n.cuts prices
    then Some (with_floor b.nodes k n (max n.floor (bound_of i n.cuts prices)))
    else None

-- the nodes after the open node at k is split by the number of a live class, which the node's cuts leave open there
abbrev pub divided : Problem → Book → ℕ → Class → ℕ → Node → Option (List Node)
divided i b k class m n =
    if is_open b n && is_live_class i class && nat_le (low n.cuts class) m && nat_lt m (high i n.cuts class)
    then Some (with_split b.nodes k n class m)
    else None

-- the nodes after the unsplit and settled node at k gets the cost of its plan as its floor
abbrev pub settled : Problem → Book → ℕ → Node → Option (List Node)
settled i b k n =
    if not n.split && is_settled i n.cuts
    then Some (with_floor b.nodes k n (settled_floor i n.cuts))
    else None

-- the book with other nodes, which the node at k makes
abbrev pub at_node : Book → ℕ → (Node → Option (List Node)) → Option Book
at_node b k f = option_and_then (λ nodes. Some (record b { nodes = nodes })) (option_and_then f (slice_get b.nodes k))

-- the book after a post, where it is allowed; the worker's number isn't judged
abbrev pub step : Problem → Book → Post → Option Book
step i b (Plan worker rows c) = if is_better i b rows c then Some (record b { best = rows; cost = c }) else None
step i b (Priced worker k prices) = at_node b k (priced i b k prices)
step i b (Split worker k class m) = at_node b k (divided i b k class m)
step i b (Settled worker k) = at_node b k (settled i b k)

-- the book after posts in order, where each is allowed
abbrev pub book_after : Problem → Book → List Post → Option Book
book_after i b [] = Some b
book_after i b (post ∷ posts) = option_and_then (λ next. book_after i next posts) (step i b post)

-- the book that posts make of the opening book, where each is allowed
abbrev pub book_of : Problem → List Post → Option Book
book_of i posts = book_after i (opening i) posts

-- a sound book
pub record IsSound (i : Problem) (b : Book) : Type 0 where
  -- the best rota is legal and has the recorded cost
  pub legal : IsTrue (are_legal_rows i b.best)
  pub exact : cost i (rota_of b.best) ≡ b.cost
  -- every legal rota lies below some unsplit node, and costs at least the floor of each node that it lies below
  pub nodes : AreSound i [] b.nodes
