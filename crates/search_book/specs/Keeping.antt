-- What a crash may leave of the posts of a search.
use Rattle.std.specs.Prelude.{◌≡◌, ℕ, ◌+◌, ◌*◌, ◌≤◌, ◌<◌, ◌^◌, List, [], ◌++◌, length, take, Option, None, Some, OnSome, IfSome}
use Rattle.plan_base.specs.Causes.{Rose}
use Rattle.plan_base.specs.Disk.{IsOnlyImage, TellsAlike}
use Rattle.post_codec.specs.declared.post.Post.{Post}
use Rattle.shift_instance.specs.Problem.{Problem}
use Rattle.shift_instance.specs.Valid.{IsValid}
use Rattle.search_core.specs.Book.{Book, book_of}
use Rattle.search_core.specs.declared.board.Shutting.{Shutting}
use Rattle.search_core.specs.declared.board.Shutting.TheVariants.{DiskFault, Full}
use Rattle.search_book.specs.Posts.{StandsForPosts, IsJournalOf}
use Rattle.post_codec.specs.Batches.{joined}
use Rattle.search_book.specs.PostLog.{PostLogView}

-- a file that stands for the opening posts of a run and the first of its batches, at least so many, each whole; these posts
-- make a book
pub record HoldsBatches (limit : ℕ) (i : Problem) (opening : List Post) (batches : List (List Post)) (least : ℕ) (file : List ℕ) : Type 0 where
  pub count : ℕ
  pub at_least : least ≤ count
  pub at_most : count ≤ length batches
  pub holds : StandsForPosts limit i (opening ++ joined (take count batches)) file
  pub book : Book
  pub folds : book_of i (opening ++ joined (take count batches)) ≡ Some book

-- For every b up to the records made, each image since the b-th of them was acknowledged stands for the opening posts and
-- those of whole commits, from the first on, the first b among them. A record is acknowledged with the fourth call on the
-- disk after the one before it. A commit that ended in a disk fault counts as the last.
abbrev pub PostsLast : {D : Type 0} → (D → Option (List ℕ)) → (D → ℕ → List ℕ → Type 0) → (D → ℕ) → PostLogView D → Type 0
PostsLast reads images_since calls log =
    OnSome (reads log.disk) ((b : ℕ) (image : List ℕ) → b ≤ length log.batches → images_since log.disk (calls log.opened + 4 * b) image
    → HoldsBatches log.limit log.instance log.opening (log.batches ++ log.in_flight) b image)

-- the file is the only image, and it is the journal of the posts
pub record IsKeptPosts {D : Type 0} (images : D → List ℕ → Type 0) (log : PostLogView D) (file : List ℕ) : Type 0 where
  pub only : IsOnlyImage file (images log.disk)
  pub journal : IsJournalOf log.limit log.instance log.history log.used file

-- the disk holds the posts, where it tells its content, and each record took four calls
pub record IsRunningPosts {D : Type 0} (reads : D → Option (List ℕ)) (images : D → List ℕ → Type 0) (calls : D → ℕ) (log : PostLogView D) : Type 0 where
  pub kept : IfSome (reads log.disk) (IsKeptPosts images log)
  pub time : calls log.disk ≡ calls log.opened + 4 * length log.batches

-- what shut a log, if anything did: its disk failed between two counts of faults, or a record would have ended past its limit;
-- posts are in flight only after a disk fault
abbrev pub ShutOf : (limit before now : ℕ) → List (List Post) → Option Shutting → Type 0
ShutOf limit before now in_flight None = in_flight ≡ []
ShutOf limit before now in_flight (Some DiskFault) = Rose before now
ShutOf limit before now in_flight (Some (Full end most)) = (in_flight ≡ []) × (limit < end) × (most ≡ limit)

-- what is known of a log of posts at each moment
pub record IsPostLog {D : Type 0} (reads : D → Option (List ℕ)) (images : D → List ℕ → Type 0) (images_since : D → ℕ → List ℕ → Type 0) (calls faults : D → ℕ) (log : PostLogView D) : Type 0 where
  pub valid : IsValid log.instance
  pub all : log.history ≡ log.opening ++ joined log.batches
  pub folds : book_of log.instance log.history ≡ Some log.book
  pub running : log.in_flight ≡ [] → IsRunningPosts reads images calls log
  pub single : length log.in_flight ≤ 1
  pub few : length log.history < 2 ^ 24
  pub nodes : length log.book.nodes ≤ 2 ^ 24
  pub shut : ShutOf log.limit (faults log.opened) (faults log.disk) log.in_flight log.shut
  pub telling : TellsAlike (reads log.opened) (reads log.disk)
  pub later : faults log.opened ≤ faults log.disk
  -- the last of the records was acknowledged by now
  pub moment : calls log.opened + 4 * length log.batches ≤ calls log.disk
  -- and since then no more than the calls of one more were made
  pub most : calls log.disk ≤ calls log.opened + 4 * length log.batches + 4
  pub lasts : PostsLast reads images_since calls log
