-- How a search ends over the book that it opened on a disk, and a disk on which none was opened.
use Rattle.std.specs.Prelude.{◌≡◌, ⊤, ℕ, ◌+◌, ◌<◌, ◌≤◌, IsTrue, IsFalse, List, [], ◌++◌, length, Some, IsSome, IfSome, OnSome}
use Rattle.plan_base.specs.Causes.{Rose}
use Rattle.gated_journal.specs.declared.TheConstants.{JOURNAL_MAX}
use Rattle.shift_instance.specs.Problem.{Problem}
use Rattle.instance_json.specs.Canonical.{canonical_text}
use Rattle.search_core.specs.Book.{book_of, is_finished}
use Rattle.search_core.specs.declared.board.Shutting.TheVariants.{Full as ShutByFull}
use Rattle.search_core.specs.Board.{bytes_of, leaves_open, BoardView}
use Rattle.search_core.specs.Calls.{steps_enough}
use Rattle.search_core.specs.Kept.{cuts_in}
use Rattle.search_core.specs.Steps.{posts_of}
use Rattle.search_core.specs.declared.step_posts.StepPosts.{StepPosts}
use Rattle.post_codec.specs.declared.post.Post.{Post}
use Rattle.search_book.specs.declared.open_fault.OpenFault.{OpenFault}
use Rattle.search_book.specs.declared.open_fault.OpenFault.TheVariants.{DiskFault as OpeningsDisk, NotAJournal, OtherInstance, Damaged, Rejected, NoMemory as OpeningsMemory, OldVersion}
use Rattle.search_book.specs.Opened.{HoldsBook, OpenCause}
use Rattle.search_book.specs.Opening.{IsOldOrShort}
use Rattle.worker_gate.specs.declared.run.RunEnd.{RunEnd}
use Rattle.worker_gate.specs.declared.run.RunEnd.TheVariants.{Finished, Spent, Full as FullEnd, DiskFault as DiskEnd, NoMemory as MemoryEnd, Stopped}
use Rattle.solve_runs.specs.Report.{IsUnbeaten}
use Rattle.solve_runs.specs.Served.{AreTold, Served, ToldMet, Works}
use Rattle.solve_runs.specs.Session.{DiskMet, Session, posts_in}

-- ---- how a search ends that wasn't cut off

-- no node is open
pub record IsFinished {disk : DiskMet} {i : Problem} (session : Session disk i) : Type 0 where
  pub landed : session.in_flight ≡ []
  pub finished : IsTrue (is_finished session.last)

-- all steps of the budget were taken, each was committed, and a node is open: so many steps don't finish each search of the instance
pub record IsSpent (budget : ℕ) {disk : DiskMet} {i : Problem} (session : Session disk i) : Type 0 where
  pub landed : session.in_flight ≡ []
  pub unfinished : IsFalse (is_finished session.last)
  pub few : budget < steps_enough i

-- a node is open; that a step of the budget was left is said of its workers (`WorkersEnd`)
pub record IsStopped {disk : DiskMet} {i : Problem} (session : Session disk i) : Type 0 where
  pub landed : session.in_flight ≡ []
  pub unfinished : IsFalse (is_finished session.last)

-- these are the posts of a step of one of the workers, over the book that the session left: it would have closed its node, for whose
-- cuts its prices are
pub record IsUnfit (workers : ℕ) {disk : DiskMet} {i : Problem} (session : Session disk i) (posts : List Post) : Type 0 where
  pub worker : ℕ
  pub below : worker < workers
  pub step : StepPosts
  pub cuts : step.proved.cuts ≡ cuts_in session.last.nodes step.node
  pub closes : IsFalse (leaves_open i session.last worker step)
  pub posts_are : posts ≡ posts_of i session.last worker step

-- A node is open, and a commit of a step answered that there is no room for its posts, four at most, which the book allows: with their
-- record the file's journal would have ended there, past its limit. Fewer steps were committed than the budget has. The posts are
-- those that the last board of the search kept from that commit.
pub record IsFull (workers commits budget end limit : ℕ) (last : BoardView) {disk : DiskMet} {i : Problem} (session : Session disk i) : Type 0 where
  pub landed : session.in_flight ≡ []
  pub unfinished : IsFalse (is_finished session.last)
  pub left : commits < budget
  pub refused : last.shut ≡ Some (ShutByFull end limit)
  pub unfit : ∥ IsUnfit workers session last.unfit ∥₁
  pub some : 0 < length last.unfit
  pub at_most : length last.unfit ≤ 4
  pub allowed : IsSome (book_of i (posts_in session ++ last.unfit))
  pub ends : end ≡ session.used_after + bytes_of last.unfit
  pub most : limit ≡ JOURNAL_MAX
  pub over : limit < end

-- How the search of a run ended over the book that it opened, with that last board, and how often the advisers were told something. A
-- search that took all steps of its budget committed each. Where a call on the disk failed, its faults rose; where memory ran out, none
-- had. One that was stopped had a step left.
abbrev pub HasEnded : (disk : DiskMet) (i : Problem) → ℕ → ℕ → ToldMet → RunEnd → BoardView → Session disk i → Type 0
HasEnded disk i workers budget told Finished last s = IsFinished s × IsUnbeaten i s.last.cost × Served workers budget told Finished last s
HasEnded disk i workers budget told Spent last s = IsSpent budget s × Works workers budget budget Spent last s × AreTold workers budget told
HasEnded disk i workers budget told (FullEnd end limit) last s = (served : Served workers budget told (FullEnd end limit) last s) × IsFull workers served.0 budget end limit last s
HasEnded disk i workers budget told DiskEnd last s = Rose disk.faults.0 disk.faults.1 × Served workers budget told DiskEnd last s
HasEnded disk i workers budget told Stopped last s = IsStopped s × Served workers budget told Stopped last s
HasEnded disk i workers budget told MemoryEnd last s = (s.in_flight ≡ []) × Served workers budget told MemoryEnd last s

-- ---- a disk on which no book was opened

-- each image since the run began was one before, or is no longer than the new journal that an empty file would have become
abbrev pub IsLeft : DiskMet → Problem → Type 0
IsLeft disk i = OnSome disk.file ((image : List ℕ) → disk.images_since disk.calls.0 image → IsOldOrShort disk.file disk.images (13 + length (canonical_text i)) image)

-- a refusal of a file: neither a fault of the disk nor running out of memory
abbrev pub IsRefusal : OpenFault → Type 0
IsRefusal OpeningsDisk = ⊥
IsRefusal OldVersion = ⊤
IsRefusal NotAJournal = ⊤
IsRefusal (OtherInstance at) = ⊤
IsRefusal (Damaged at) = ⊤
IsRefusal (Rejected at why) = ⊤
IsRefusal OpeningsMemory = ⊥

-- the file is refused for this cause; it doesn't stand for posts of the instance that make a book
pub record IsRefused (disk : DiskMet) (i : Problem) (why : OpenFault) : Type 0 where
  pub refusal : IsRefusal why
  pub cause : OpenCause JOURNAL_MAX i disk.file disk.faults.0 disk.faults.1 why
  pub none : IfSome disk.file (λ file. HoldsBook JOURNAL_MAX i file → ⊥)
  pub same : disk.file_after ≡ disk.file
