-- A board: what its calls make of its posts, the hands of its workers and the steps taken. Source: this project's profile.
use Rattle.std.specs.Prelude.{◌≡◌, ◌≢◌, ℕ, ◌+◌, ◌<◌, ◌≤◌, ◌⊎◌, Bool, true, IsTrue, IsFalse, ◌&&◌, not, List, [], ◌∷◌, ◌++◌, Option, Some, None, IsSome, length, slice_set}
use Rattle.std.specs.List.{list_any}
use Rattle.shift_instance.specs.Problem.{Problem}
use Rattle.head_splits.specs.Cuts.{DifferAt}
use Rattle.post_codec.specs.declared.post.Post.{Post}
use Rattle.post_codec.specs.Batches.{joined}
use Rattle.post_codec.specs.Spelling.{spelling}
use Rattle.search_core.specs.declared.step_posts.StepPosts.{StepPosts}
use Rattle.search_core.specs.declared.step_posts.Close.TheVariants.{ByPrice}
use Rattle.search_core.specs.declared.board.Origin.{Origin}
use Rattle.search_core.specs.declared.board.Shutting.{Shutting}
use Rattle.search_core.specs.declared.board.Shutting.TheVariants.{DiskFault as ShutByDiskFault, Full as ShutByFull}
use Rattle.search_core.specs.declared.board.Taken.{Taken}
use Rattle.search_core.specs.declared.board.Taken.TheVariants.{Closed, Finished, Halted, Spent, Node, Idle}
use Rattle.search_core.specs.declared.board.Kept.{Kept}
use Rattle.search_core.specs.declared.board.CommitFault.{CommitFault}
use Rattle.search_core.specs.declared.board.CommitFault.TheVariants.{DiskFault, Full, NotHeld, Shut, NotClosing, OtherCuts, NoMemory}
use Rattle.search_core.specs.Book.{Book, book_of, is_finished, is_node_and, is_open}
use Rattle.search_core.specs.Core.{Core, hand, is_node, HoldsApart, IsFront}
use Rattle.search_core.specs.Kept.{cuts_in}
use Rattle.search_core.specs.State.{book_or_opening, number_at}
use Rattle.search_core.specs.Steps.{after_step, is_cheaper, posts_of}

-- what contracts see of a board
pub record BoardView : Type 0 where
  -- what the search is for, how many steps may be taken, and where the board began: no call changes these
  pub instance : Problem
  pub budget : ℕ
  pub origin : Origin
  -- the posts, from the first one on
  pub history : List Post
  -- the posts of each record that was made since it began, in order
  pub batches : List (List Post)
  -- where its journal ends, in bytes
  pub used : ℕ
  -- the node in the hand of each worker
  pub hands : List (Option ℕ)
  -- how many steps were taken
  pub taken : ℕ
  -- what shut the board, if anything did
  pub shut : Option Shutting
  -- the posts of the step for which the journal had no room, where that shut it
  pub unfit : List Post
  -- whether a worker let go of its node without a commit
  pub halted : Bool

-- the book that a board's posts make
abbrev pub book_at : BoardView → Book
book_at v = book_or_opening v.instance v.history

-- the core of a board: its posts, how many of them are acknowledged, and its hands
abbrev pub core_of : ℕ → BoardView → Core
core_of acked v = record { history = v.history; acked = acked; hands = v.hands }

-- ---- records

-- how many records are made of the posts of a step: one with all of them, and none where there are none
abbrev pub records_of : List Post → ℕ
records_of [] = 0
records_of (post ∷ posts) = 1

-- the posts of that record
abbrev pub batches_of : List Post → List (List Post)
batches_of [] = []
batches_of (post ∷ posts) = (post ∷ posts) ∷ []

-- its bytes, with its length and its gate
abbrev pub bytes_of : List Post → ℕ
bytes_of [] = 0
bytes_of (post ∷ posts) = 5 + length (spelling (post ∷ posts))

-- ---- which node is taken

-- whether a node may be taken: it is open, and in no hand
abbrev pub is_free : Book → List (Option ℕ) → ℕ → Bool
is_free b hands k = is_node_and b k (is_open b) && not (list_any (is_node k) hands)

-- a node's floor by its number
abbrev pub floor_of_node : Book → ℕ → ℕ
floor_of_node b k = number_at b k (λ n. n.floor)

-- the free node of least floor, and among those of least number
pub record IsNext (b : Book) (hands : List (Option ℕ)) (k : ℕ) : Type 0 where
  pub free : IsTrue (is_free b hands k)
  pub least : (j : ℕ) → IsTrue (is_free b hands j) → (floor_of_node b k < floor_of_node b j) ⊎ ((floor_of_node b k ≡ floor_of_node b j) × (k ≤ j))

-- no node is free
abbrev pub NoneIsFree : Book → List (Option ℕ) → Type 0
NoneIsFree b hands = (k : ℕ) → IsFalse (is_free b hands k)

-- ---- take

-- a board that gives nodes: it isn't shut, some node is open, no worker gave up, and a step is left
pub record Gives (v : BoardView) : Type 0 where
  pub running : v.shut ≡ None
  pub unfinished : IsFalse (is_finished (book_at v))
  pub going : IsFalse v.halted
  pub step_left : v.taken < v.budget

-- what each answer of a take says, and what it makes
abbrev pub TakeMakes : Taken → ℕ → BoardView → BoardView → Type 0
TakeMakes Closed w old new = IsSome old.shut × (new ≡ old)
TakeMakes Finished w old new = (old.shut ≡ None) × IsTrue (is_finished (book_at old)) × (new ≡ old)
TakeMakes Halted w old new = (old.shut ≡ None) × IsFalse (is_finished (book_at old)) × IsTrue old.halted × (new ≡ old)
TakeMakes Spent w old new = (old.shut ≡ None) × IsFalse (is_finished (book_at old)) × IsFalse old.halted × (old.taken ≡ old.budget) × (new ≡ old)
TakeMakes (Node k floor best) w old new =
    Gives old × IsNext (book_at old) old.hands k × (floor ≡ floor_of_node (book_at old) k) × (best ≡ (book_at old).cost)
    × (new ≡ record old { hands = slice_set old.hands w (Some k); taken = old.taken + 1 })
TakeMakes Idle w old new = Gives old × NoneIsFree (book_at old) old.hands × (new ≡ old)

-- ---- commit

-- a step that a worker may commit: the board isn't shut, the worker holds the step's node, and the prices are for its cuts
pub record HoldsStep (w : ℕ) (step : StepPosts) (v : BoardView) : Type 0 where
  pub running : v.shut ≡ None
  pub held : hand v.hands w ≡ Some step.node
  pub cuts : step.proved.cuts ≡ cuts_in (book_at v).nodes step.node

-- the posts of a worker's step, and the book after them
abbrev pub posts_at : BoardView → ℕ → StepPosts → List Post
posts_at v w step = posts_of v.instance (book_at v) w step

abbrev pub after_at : BoardView → ℕ → StepPosts → Book
after_at v w step = after_step v.instance (book_at v) w step

-- whether a step leaves its node open
abbrev pub leaves_open : Problem → Book → ℕ → StepPosts → Bool
leaves_open i b w step = is_node_and (after_step i b w step) step.node (is_open (after_step i b w step))

-- a step with posts, that closes its node
pub record HasPosts (w : ℕ) (step : StepPosts) (v : BoardView) : Type 0 where
  pub holds : HoldsStep w step v
  pub closes : IsFalse (leaves_open v.instance (book_at v) w step)
  pub some : 0 < length (posts_at v w step)

-- a commit: the step's posts are appended as one record, the hand is empty, and the node isn't open
pub record Commits (w : ℕ) (step : StepPosts) (old new : BoardView) (kept : Kept) : Type 0 where
  pub holds : HoldsStep w step old
  pub makes : new ≡ record old { history = old.history ++ posts_at old w step; batches = old.batches ++ batches_of (posts_at old w step); used = old.used + bytes_of (posts_at old w step); hands = slice_set old.hands w None }
  pub closed : IsFalse (is_node_and (book_at new) step.node (is_open (book_at new)))
  pub plan : kept.plan ≡ is_cheaper step.plan (book_at old)
  pub records : kept.records ≡ records_of (posts_at old w step)
  pub best : kept.best ≡ (book_at new).cost
  pub floor : kept.floor ≡ floor_of_node (book_at new) step.node

-- what each refusal of a commit says, and what it makes: after `Full` the journal would have ended there with the step's
-- record, past its limit
abbrev pub CommitRefuses : ℕ → StepPosts → BoardView → BoardView → CommitFault → Type 0
CommitRefuses w step old new DiskFault = HasPosts w step old × (new ≡ record old { shut = Some ShutByDiskFault })
CommitRefuses w step old new (Full end most) =
    HasPosts w step old × (end ≡ old.used + bytes_of (posts_at old w step)) × (most ≡ old.origin.limit) × (most < end)
    × (new ≡ record old { shut = Some (ShutByFull end most); unfit = posts_at old w step })
CommitRefuses w step old new (NotHeld held) = (old.shut ≡ None) × (held ≡ hand old.hands w) × (held ≢ Some step.node) × (new ≡ old)
CommitRefuses w step old new Shut = IsSome old.shut × (new ≡ old)
CommitRefuses w step old new (NotClosing floor best back) =
    HoldsStep w step old × (step.close ≡ ByPrice) × IsTrue (leaves_open old.instance (book_at old) w step)
    × (floor ≡ floor_of_node (after_at old w step) step.node) × (best ≡ (after_at old w step).cost)
    × (back ≡ step) × (new ≡ old)
CommitRefuses w step old new (OtherCuts at) =
    (old.shut ≡ None) × (hand old.hands w ≡ Some step.node) × DifferAt step.proved.cuts (cuts_in (book_at old).nodes step.node) at × (new ≡ old)
CommitRefuses w step old new NoMemory = new ≡ old

-- ---- yield

-- a worker lets go of what is in its hand, and the board gives no more nodes
abbrev pub yields : ℕ → BoardView → BoardView
yields w v = record v { hands = slice_set v.hands w None; halted = true }

-- ---- what every board keeps

-- The journal has no room for the posts of a step, four at most: the book allows them behind the others, and with their record
-- the journal would end there, past its limit.
pub record IsPast (v : BoardView) (end most : ℕ) : Type 0 where
  pub some : 0 < length v.unfit
  pub few : length v.unfit ≤ 4
  pub allowed : IsSome (book_of v.instance (v.history ++ v.unfit))
  pub ends : end ≡ v.used + bytes_of v.unfit
  pub limit : most ≡ v.origin.limit
  pub past : most < end

pub record IsSoundBoard (v : BoardView) : Type 0 where
  -- the posts make a book, of which the hands hold distinct unsplit nodes
  pub book : Book
  pub folds : book_of v.instance v.history ≡ Some book
  pub hands : HoldsApart book v.hands
  pub sixteen : length v.hands ≡ 16
  -- no more steps are taken than there are
  pub within : v.taken ≤ v.budget
  -- the history is that of the origin and the posts of the records since, and that of the origin while no step was taken
  pub all : v.history ≡ v.origin.history ++ joined v.batches
  pub begins : IsFront v.origin.history v.history
  pub fresh : v.taken ≡ 0 → v.history ≡ v.origin.history
  -- what shut it, where that was its journal's limit
  pub past : (end most : ℕ) → v.shut ≡ Some (ShutByFull end most) → IsPast v end most
