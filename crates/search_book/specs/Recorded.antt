-- What ties the posts of a search to its journal's records, and what a commit of posts does.
use Rattle.std.specs.Prelude.{◌≡◌, ◌≢◌, ℕ, ◌+◌, ◌≤◌, ◌<◌, ◌^◌, List, [], ◌∷◌, ◌++◌, length, Option, None, Some, IsSome}
use Rattle.std.specs.List.{AllZip}
use Rattle.plan_base.specs.Causes.{Rose}
use Rattle.gated_journal.specs.declared.fault.JournalFault.{JournalFault}
use Rattle.gated_journal.specs.declared.fault.JournalFault.TheVariants.{DiskFault as DiskFails, NoMemory, NotAJournal, Damaged, Full as IsFull, OldVersion}
use Rattle.instance_json.specs.Canonical.{canonical_text}
use Rattle.post_codec.specs.declared.post.Post.{Post}
use Rattle.post_codec.specs.Spelling.{Spells}
use Rattle.shift_instance.specs.Valid.{IsValid}
use Rattle.search_core.specs.Board.{bytes_of}
use Rattle.search_core.specs.Book.{Book, book_of}
use Rattle.search_core.specs.declared.board.Shutting.{Shutting}
use Rattle.search_core.specs.declared.board.Shutting.TheVariants.{DiskFault, Full}
use Rattle.post_codec.specs.Batches.{joined, SpellPosts}
use Rattle.search_book.specs.PostLog.{PostLogView}
use Rattle.search_book.specs.Records.{LogView}

-- the first records, so many, spell the opening posts, and each record since spells its batch
pub record IsRecorded (records : List (List ℕ)) (first : ℕ) (opening : List Post) (batches : List (List Post)) : Type 0 where
  pub front : List (List ℕ)
  pub rest : List (List ℕ)
  pub all : front ++ rest ≡ records
  pub count : length front ≡ first
  pub opened : SpellPosts front opening
  pub since : AllZip Spells rest batches

-- what shut a log of posts: a record is in flight, or one would have ended past the limit
abbrev pub ShutIn : ℕ → List (List ℕ) → Option Shutting → Type 0
ShutIn limit flight None = flight ≡ []
ShutIn limit flight (Some DiskFault) = flight ≢ []
ShutIn limit flight (Some (Full end most)) = (flight ≡ []) × (limit < end) × (most ≡ limit)

-- what a log of posts keeps
pub record IsPostLogInside {D : Type 0} (log : LogView D) (posts : PostLogView D) : Type 0 where
  pub head : log.head ≡ canonical_text posts.instance
  pub small : log.limit ≤ 2 ^ 26
  pub valid : IsValid posts.instance
  pub recorded : IsRecorded log.records log.opening posts.opening posts.batches
  pub flight : AllZip Spells log.in_flight posts.in_flight
  pub single : length posts.in_flight ≤ 1
  pub all : posts.history ≡ posts.opening ++ joined posts.batches
  pub folds : book_of posts.instance posts.history ≡ Some posts.book
  pub next : IsSome (book_of posts.instance (posts.history ++ joined posts.in_flight))
  pub few : length posts.history < 2 ^ 24
  pub nodes : length posts.book.nodes ≤ 2 ^ 24
  pub shut : ShutIn log.limit log.in_flight posts.shut

-- posts are in the log as one record, by four calls
pub record Records {D : Type 0} (calls : D → ℕ) (old new : PostLogView D) (posts : List Post) (after : Book) : Type 0 where
  pub log : new ≡ record old { disk = new.disk; history = old.history ++ posts; batches = old.batches ++ posts ∷ []; book = after; used = old.used + bytes_of posts }
  pub four : calls new.disk ≡ calls old.disk + 4
  pub within : old.used + bytes_of posts ≤ old.limit

-- why posts aren't recorded, and what the log is then
abbrev pub RecordFails : {D : Type 0} → (D → ℕ) → PostLogView D → PostLogView D → List Post → JournalFault → Type 0
RecordFails faults old new posts DiskFails =
    (new ≡ record old { disk = new.disk; in_flight = posts ∷ []; shut = Some DiskFault })
    × (old.used + bytes_of posts ≤ old.limit) × Rose (faults old.disk) (faults new.disk)
RecordFails faults old new posts (IsFull end most) =
    (new ≡ record old { unfit = posts; shut = Some (Full end most) }) × (end ≡ old.used + bytes_of posts) × (most ≡ old.limit) × (most < end)
RecordFails faults old new posts NoMemory = new ≡ old
RecordFails faults old new posts NotAJournal = ⊥
RecordFails faults old new posts OldVersion = ⊥
RecordFails faults old new posts (Damaged at) = ⊥
