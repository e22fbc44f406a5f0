-- What a run makes of the book that it opens on its disk.
use Rattle.std.specs.Prelude.{◌≡◌, ℕ, ◌+◌, ◌*◌, ◌≤◌, List, [], ◌++◌, length, Option, Some, IsSome, IfSome, OnSome}
use Rattle.plan_base.specs.Disk.{IsOnlyImage}
use Rattle.gated_journal.specs.declared.TheConstants.{JOURNAL_MAX}
use Rattle.post_codec.specs.declared.post.Post.{Post}
use Rattle.shift_instance.specs.Problem.{Problem}
use Rattle.search_core.specs.Book.{Book, book_of}
use Rattle.search_book.specs.Keeping.{HoldsBatches}
use Rattle.search_book.specs.Opening.{IsOpenedFrom}
use Rattle.search_book.specs.Posts.{IsJournalOf}
use Rattle.post_codec.specs.Batches.{joined}

-- what shows of a run's disk: its content before and after the run (none where it doesn't tell), what a crash may leave before
-- and after it and since a moment, and the numbers of its calls and of its faults before and after
pub record DiskMet : Type 1 where
  pub file : Option (List ℕ)
  pub file_after : Option (List ℕ)
  pub images : List ℕ → Type 0
  pub images_after : List ℕ → Type 0
  pub images_since : ℕ → List ℕ → Type 0
  pub calls : ℕ × ℕ
  pub faults : ℕ × ℕ

-- what shows of a disk from one of its states to a later one
abbrev pub met_of : {D : Type 0} → (D → Option (List ℕ)) → (D → List ℕ → Type 0) → (D → ℕ → List ℕ → Type 0) → (D → ℕ) → (D → ℕ) → D → D → DiskMet
met_of reads images images_since calls faults old new = record {
  file = reads old;
  file_after = reads new;
  images = images old;
  images_after = images new;
  images_since = images_since new;
  calls = (calls old, calls new);
  faults = (faults old, faults new);
}

-- a disk that wasn't called: its content, its images and the numbers of its calls and of its faults are as before
pub record IsUncalled (met : DiskMet) : Type 0 where
  pub file : met.file_after ≡ met.file
  pub images : (image : List ℕ) → (met.images_after image → met.images image) × (met.images image → met.images_after image)
  pub calls : met.calls.1 ≡ met.calls.0
  pub faults : met.faults.1 ≡ met.faults.0

-- the disk's content is the only image, and it is the journal of the posts, which uses so many bytes
pub record IsOnlyJournal (met : DiskMet) (i : Problem) (posts : List Post) (used : ℕ) (file : List ℕ) : Type 0 where
  pub only : IsOnlyImage file met.images_after
  pub journal : IsJournalOf JOURNAL_MAX i posts used file

-- A run over a book that it opened. The posts of its session are those of the steps that were committed, each step's a record, and
-- those of a step during which the disk failed. Which steps these are is said of its workers (`Works`).
pub record Session (met : DiskMet) (i : Problem) : Type 0 where
  -- the posts of the file before it, the book that they make, and the bytes of its journal; an empty file becomes the new one
  pub opening : List Post
  pub first : Book
  pub opens : book_of i opening ≡ Some first
  pub used : ℕ
  pub opened_as : Option (List ℕ)
  pub found : IfSome met.file (IsOpenedFrom JOURNAL_MAX i opening used opened_as)
  -- the posts of each step that was committed with some, those of the step during which the disk failed, and the book of the
  -- committed ones
  pub batches : List (List Post)
  pub in_flight : List (List Post)
  pub single : length in_flight ≤ 1
  pub last : Book
  pub ends : book_of i (opening ++ joined batches) ≡ Some last
  -- the moment of the opening, in the run: an empty file is opened by four calls
  pub since : ℕ
  pub begun : met.calls.0 ≤ since
  pub anew : met.file ≡ Some [] → since ≡ met.calls.0 + 4
  -- each record is acknowledged with the fourth call after the one before it, the last of them in the run, and no call comes after the
  -- search: after the last of these there are at most those of the step during which the disk failed
  pub moment : since + 4 * length batches ≤ met.calls.1
  pub most : met.calls.1 ≤ since + 4 * length batches + 4
  -- a disk that told its content before the run tells it after
  pub tells : OnSome met.file (IsSome met.file_after)
  -- each image since the b-th record was acknowledged holds the opening posts and those of whole steps, from the first on, the
  -- first b among them; these posts make a book
  pub lasts : OnSome met.file_after ((b : ℕ) (image : List ℕ) → b ≤ length batches → met.images_since (since + 4 * b) image
      → HoldsBatches JOURNAL_MAX i opening (batches ++ in_flight) b image)
  -- and so does each image after the run, with every acknowledged step
  pub after : OnSome met.file_after ((image : List ℕ) → met.images_after image → HoldsBatches JOURNAL_MAX i opening (batches ++ in_flight) (length batches) image)
  -- where no step ended in a disk fault, the disk holds the committed posts and nothing else, and each record took four calls
  pub used_after : ℕ
  pub kept : in_flight ≡ [] → IfSome met.file_after (IsOnlyJournal met i (opening ++ joined batches) used_after)
  pub time : in_flight ≡ [] → met.calls.1 ≡ since + 4 * length batches

-- all posts that a session's book has
abbrev pub posts_in : {met : DiskMet} {i : Problem} → Session met i → List Post
posts_in session = session.opening ++ joined session.batches
