-- What contracts see of the book of a search.
use Rattle.std.specs.Prelude.{◌≡◌, ℕ, ◌+◌, ◌≤◌, ◌<◌, Bool, not, true, List, ◌++◌, length, Option, Some, IsSome}
use Rattle.search_core.specs.declared.board.Shutting.TheVariants.{Full}
use Rattle.search_core.specs.Board.{bytes_of, BoardView}
use Rattle.search_core.specs.Book.{book_of, is_node_and}
use Rattle.search_core.specs.Core.{hand, AreApart}
use Rattle.search_book.specs.Origins.{origin_at, tells}
use Rattle.post_codec.specs.Batches.{joined}
use Rattle.search_book.specs.PostLog.{PostLogView}

-- the journal had no room for the posts of a step, four at most, which the book allows: with their record it would end there
abbrev pub IsOver : {D : Type 0} → PostLogView D → ℕ → ℕ → Type 0
IsOver log end most =
    (0 < length log.unfit) × (length log.unfit ≤ 4) × IsSome (book_of log.instance (log.history ++ log.unfit))
    × (end ≡ log.used + bytes_of log.unfit) × (most ≡ log.limit) × (most < end)

-- what the book of a search keeps: its posts make the book, its workers hold distinct unsplit nodes of it, no more steps are
-- taken than the budget has, and posts are appended only once a step is taken
pub record KeepsSearch {D : Type 0} (log : PostLogView D) (hands : List (Option ℕ)) (taken budget : ℕ) : Type 0 where
  pub all : log.history ≡ log.opening ++ joined log.batches
  pub folds : book_of log.instance log.history ≡ Some log.book
  pub apart : AreApart hands
  pub unsplit : (w x : ℕ) → hand hands w ≡ Some x → is_node_and log.book x (λ n. not n.split) ≡ true
  pub counted : (w x : ℕ) → hand hands w ≡ Some x → 0 < taken
  pub sixteen : length hands ≡ 16
  pub within : taken ≤ budget
  pub fresh : taken ≡ 0 → log.history ≡ log.opening
  pub past : (end most : ℕ) → log.shut ≡ Some (Full end most) → IsOver log end most

pub record SearchView (D : Type 0) : Type 0 where
  -- the posts on the disk
  pub log : PostLogView D
  -- the node in the hand of each worker
  pub hands : List (Option ℕ)
  -- how many steps were taken, and how many may be
  pub taken : ℕ
  pub budget : ℕ
  -- whether a worker let go of its node without a commit
  pub halted : Bool
  pub keeps : KeepsSearch log hands taken budget

-- a log of posts, with hands and steps, as a board
abbrev pub board_at : {D : Type 0} → (D → Option (List ℕ)) → (D → ℕ) → (D → ℕ) → PostLogView D → List (Option ℕ) → ℕ → ℕ → Bool → BoardView
board_at reads calls faults log hands taken budget halted = record {
  instance = log.instance;
  budget = budget;
  origin = origin_at log.opening (calls log.opened) (faults log.opened) log.limit (tells (reads log.opened));
  history = log.history;
  batches = log.batches;
  used = log.used;
  hands = hands;
  taken = taken;
  shut = log.shut;
  unfit = log.unfit;
  halted = halted;
}

-- a book as a board
abbrev pub board_of : {D : Type 0} → (D → Option (List ℕ)) → (D → ℕ) → (D → ℕ) → SearchView D → BoardView
board_of reads calls faults b = board_at reads calls faults b.log b.hands b.taken b.budget b.halted
