-- What workers find of posts below the cuts of their nodes, before a book judges the posts.
use Rattle.std.specs.Prelude.{◌≡◌, ◌≤◌, ◌<◌, ℕ, Bool, false, IsTrue, IfSome, not, List, Option, Some, slice_get}
use Rattle.shift_instance.specs.Problem.{Problem}
use Rattle.head_splits.specs.declared.Class.{Class}
use Rattle.head_splits.specs.declared.Cut.{Cut}
use Rattle.head_splits.specs.declared.Prices.{Prices}
use Rattle.head_splits.specs.Bound.{are_prices, bound_of}
use Rattle.head_splits.specs.Cuts.{low, high}
use Rattle.head_splits.specs.Nodes.{settled_floor}
use Rattle.head_splits.specs.Settled.{is_live_class, is_settled}
use Rattle.post_codec.specs.declared.post.Post.{Post}
use Rattle.post_codec.specs.declared.post.Post.TheVariants.{Plan, Priced, Split, Settled}
use Rattle.search_core.specs.Book.{Book, is_node_and, is_open}
use Rattle.recovery.specs.NodeCuts.{cuts_at}

-- the prices are a price set for the cuts, and that is their bound
abbrev pub IsBound : Problem → List Cut → Prices → ℕ → Type 0
IsBound i cuts prices bound = IsTrue (are_prices i cuts prices) × (bound ≡ bound_of i cuts prices)

-- the class is live, and the cuts leave the number open there
abbrev pub Divides : Problem → List Cut → Class → ℕ → Type 0
Divides i cuts class m = IsTrue (is_live_class i class) × (low cuts class ≤ m) × (m < high i cuts class)

-- the cuts fix the number of each legal duty, and their plan costs so much
abbrev pub IsSettledAt : Problem → List Cut → ℕ → Type 0
IsSettledAt i cuts floor = IsTrue (is_settled i cuts) × (floor ≡ settled_floor i cuts)

-- a post passes what the cuts of its node ask of it, with a number: the bound of prices, or the floor of a settled node; of a split any, as the floor of its node goes
-- with it; nothing is found of a plan
abbrev pub IsFoundIn : Problem → List (List Cut) → Post → ℕ → Type 0
IsFoundIn i nodes (Plan worker rows c) found = ⊥
IsFoundIn i nodes (Priced worker k prices) found = IsBound i (cuts_at nodes k) prices found
IsFoundIn i nodes (Split worker k class m) found = Divides i (cuts_at nodes k) class m
IsFoundIn i nodes (Settled worker k) found = IsSettledAt i (cuts_at nodes k) found

-- of the posts at the places of some numbers, where a number is there it is found of the post
abbrev pub AreFoundIn : Problem → List (List Cut) → List Post → List (Option ℕ) → Type 0
AreFoundIn i nodes posts all = (at : ℕ) (post : Post) (found : ℕ) → slice_get posts at ≡ Some post → slice_get all at ≡ Some (Some found) → IsFoundIn i nodes post found

-- the same for the cuts of a node of a book, where that is there
abbrev pub IsFoundAt : Problem → Book → Post → ℕ → Type 0
IsFoundAt i b (Plan worker rows c) found = ⊥
IsFoundAt i b (Priced worker k prices) found = IfSome (slice_get b.nodes k) (λ n. IsBound i n.cuts prices found)
IsFoundAt i b (Split worker k class m) found = IfSome (slice_get b.nodes k) (λ n. Divides i n.cuts class m)
IsFoundAt i b (Settled worker k) found = IfSome (slice_get b.nodes k) (λ n. IsSettledAt i n.cuts found)

-- whether the node of a post is as the post needs it, its cuts aside: unsplit, and for a split open; of a plan nothing is said
abbrev pub is_ready : Book → Post → Bool
is_ready b (Plan worker rows c) = false
is_ready b (Priced worker k prices) = is_node_and b k (λ n. not n.split)
is_ready b (Split worker k class m) = is_node_and b k (is_open b)
is_ready b (Settled worker k) = is_node_and b k (λ n. not n.split)
