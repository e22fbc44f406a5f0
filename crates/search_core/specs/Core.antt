-- What the hands of workers, commits and crashes may do to a book's history of posts. Source: this project's profile.
use Rattle.std.specs.Prelude.{ℕ, ◌≤◌, ◌≡◌, Bool, false, IsTrue, ◌&&◌, not, ◌==◌, nat_lt, nat_le, List, [], ◌∷◌, ◌++◌, Option, Some, None, is_none, length, take, replicate, slice_get, slice_set, if◌then◌else◌}
use Rattle.std.specs.List.{list_all, list_any}
use Rattle.std.specs.Option.{option_map_or, option_and_then}
use Rattle.shift_instance.specs.Problem.{Problem}
use Rattle.post_codec.specs.declared.post.Post.{Post}
use Rattle.post_codec.specs.declared.post.Post.TheVariants.{Plan, Priced, Split, Settled}
use Rattle.search_core.specs.declared.event.Event.{Event}
use Rattle.search_core.specs.declared.event.Event.TheVariants.{Take, Commit, Yield, Crash}
use Rattle.search_core.specs.Book.{Book, book_of, is_open, is_node_and, IsSound}

-- a core: the posts so far, how many of them are acknowledged, and the node in the hand of each of sixteen workers
pub record Core : Type 0 where
  pub history : List Post
  pub acked : ℕ
  pub hands : List (Option ℕ)

-- the hands of all workers, empty
abbrev pub empty_hands : List (Option ℕ)
empty_hands = replicate 16 None

-- the opening core
abbrev pub start : Core
start = record { history = []; acked = 0; hands = empty_hands }

-- the core of a search that is opened with posts: all are acknowledged, and all hands are empty
abbrev pub opened : List Post → Core
opened posts = record { history = posts; acked = length posts; hands = empty_hands }

-- the node in a worker's hand
abbrev pub hand : List (Option ℕ) → ℕ → Option ℕ
hand hands w = option_and_then (λ h. h) (slice_get hands w)

-- whether a hand holds that node
abbrev pub is_node : ℕ → Option ℕ → Bool
is_node k h = option_map_or (λ x. x == k) h false

-- whether a post carries the worker, and is a plan or names the node
abbrev pub is_of : ℕ → ℕ → Post → Bool
is_of w x (Plan worker rows c) = worker == w
is_of w x (Priced worker k prices) = (worker == w) && (k == x)
is_of w x (Split worker k class m) = (worker == w) && (k == x)
is_of w x (Settled worker k) = (worker == w) && (k == x)

-- whether a worker may take a node: its hand is empty, and the node is open and in no hand
abbrev pub may_take : Problem → Core → ℕ → ℕ → Bool
may_take i c w k =
    nat_lt w 16 && is_none (hand c.hands w)
    && option_map_or (λ b. is_node_and b k (is_open b)) (book_of i c.history) false
    && not (list_any (is_node k) c.hands)

-- whether a worker may commit posts for the node that it holds: they are its own, for this node, they are allowed, and close it
abbrev pub may_commit : Problem → Core → ℕ → List Post → ℕ → Bool
may_commit i c w posts x =
    list_all (is_of w x) posts
    && option_map_or (λ b. not (is_node_and b x (is_open b))) (book_of i (c.history ++ posts)) false

-- the core after an event, where it is allowed. A take and a yield acknowledge all posts, a commit those before its own, and a crash those that stay.
abbrev pub happens : Problem → Core → Event → Option Core
happens i c (Take w k) =
    if may_take i c w k
    then Some (record { history = c.history; acked = length c.history; hands = slice_set c.hands w (Some k) })
    else None
happens i c (Commit w posts) =
    if option_map_or (may_commit i c w posts) (hand c.hands w) false
    then Some (record { history = c.history ++ posts; acked = length c.history; hands = slice_set c.hands w None })
    else None
happens i c (Yield w) =
    if nat_lt w 16
    then Some (record { history = c.history; acked = length c.history; hands = slice_set c.hands w None })
    else None
happens i c (Crash keep) =
    if nat_le c.acked keep && nat_le keep (length c.history)
    then Some (record { history = take keep c.history; acked = keep; hands = empty_hands })
    else None

-- the core after events in order, where each is allowed
abbrev pub run : Problem → Core → List Event → Option Core
run i c [] = Some c
run i c (event ∷ events) = option_and_then (λ next. run i next events) (happens i c event)

-- no node is in two hands
abbrev pub AreApart : List (Option ℕ) → Type 0
AreApart hands = (v w x : ℕ) → hand hands v ≡ Some x → hand hands w ≡ Some x → v ≡ w

-- the nodes in the hands are distinct, and unsplit nodes of the book
pub record HoldsApart (b : Book) (hands : List (Option ℕ)) : Type 0 where
  pub distinct : AreApart hands
  pub unsplit : (w x : ℕ) → hand hands w ≡ Some x → IsTrue (is_node_and b x (λ n. not n.split))

-- the history folds to a sound book, and the hands hold distinct unsplit nodes of it
pub record IsSoundCore (i : Problem) (c : Core) : Type 0 where
  pub book : Book
  pub folds : book_of i c.history ≡ Some book
  pub sound : IsSound i book
  pub hands : HoldsApart book c.hands
  pub acked : c.acked ≤ length c.history

-- the first are the first of all, in their order
abbrev pub IsFront : List Post → List Post → Type 0
IsFront first all = (rest : List Post) × (first ++ rest ≡ all)
