-- The open nodes of a book that no worker holds, as they are listed.
use Rattle.std.specs.Prelude.{◌≡◌, ◌≢◌, ℕ, ◌+◌, ◌<◌, ◌≤◌, true, List, length, Option, Some, slice_get, if◌then◌else◌}
use Rattle.open_nodes.specs.Listed.{is_listed, with_entry, Entry}
use Rattle.search_core.specs.Board.{floor_of_node, is_free}
use Rattle.search_core.specs.Book.{Book, is_node_and, is_open}
use Rattle.search_core.specs.Core.{hand}

-- only nodes that may be taken are listed, each with its floor
abbrev pub ListsOnlyFree : Book → List (Option ℕ) → List Entry → Type 0
ListsOnlyFree b hands entries = (f k : ℕ) → is_listed entries f k ≡ true → (is_free b hands k ≡ true) × (floor_of_node b k ≡ f)

-- and all of them are
abbrev pub ListsAllFree : Book → List (Option ℕ) → List Entry → Type 0
ListsAllFree b hands entries = (k : ℕ) → is_free b hands k ≡ true → is_listed entries (floor_of_node b k) k ≡ true

-- the nodes of a book that may be taken are listed, each with its floor
pub record ListsFree (b : Book) (hands : List (Option ℕ)) (entries : List Entry) : Type 0 where
  pub only : ListsOnlyFree b hands entries
  pub all : ListsAllFree b hands entries

-- the open nodes below a number, in the same way
pub record ListsBelow (b : Book) (count : ℕ) (entries : List Entry) : Type 0 where
  pub only : (f k : ℕ) → is_listed entries f k ≡ true → (k < count) × (is_node_and b k (is_open b) ≡ true) × (floor_of_node b k ≡ f)
  pub all : (k : ℕ) → k < count → is_node_and b k (is_open b) ≡ true → is_listed entries (floor_of_node b k) k ≡ true

-- a list with a node, where that is open
abbrev pub with_open : Book → List Entry → ℕ → List Entry
with_open b entries k = if is_node_and b k (is_open b) then with_entry (floor_of_node b k, k) entries else entries

-- an open node is in a hand
abbrev pub HoldsOpen : Book → List (Option ℕ) → Type 0
HoldsOpen b hands = (w : ℕ) × (k : ℕ) × (hand hands w ≡ Some k) × (is_node_and b k (is_open b) ≡ true)

-- what posts for a node of a book leave of it: a best cost no greater, the other nodes as they are, and so many more at most
pub record Follows (x more : ℕ) (b c : Book) : Type 0 where
  pub cost : c.cost ≤ b.cost
  pub others : (j : ℕ) → j ≢ x → j < length b.nodes → slice_get c.nodes j ≡ slice_get b.nodes j
  pub least : length b.nodes ≤ length c.nodes
  pub most : length c.nodes ≤ length b.nodes + more
