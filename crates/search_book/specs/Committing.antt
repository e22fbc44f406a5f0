-- What a commit of a step does to the log of posts.
use Rattle.std.specs.Prelude.{◌≡◌, ◌≢◌, ⊤, ℕ, ◌+◌, ◌*◌, ◌<◌, ◌≤◌, ◌^◌, List, [], ◌++◌, length, not, Option, Some, None, IsSome, true}
use Rattle.gated_journal.specs.declared.fault.JournalFault.{JournalFault}
use Rattle.gated_journal.specs.declared.fault.JournalFault.TheVariants.{DiskFault as DiskFails, NoMemory as JournalsMemory, NotAJournal as NoJournal, Damaged as IsDamaged, Full as IsFull, OldVersion}
use Rattle.head_splits.specs.Cuts.{DifferAt}
use Rattle.post_codec.specs.declared.post.Post.{Post}
use Rattle.search_core.specs.declared.step_posts.StepPosts.{StepPosts}
use Rattle.search_core.specs.declared.board.Kept.{Kept}
use Rattle.search_core.specs.declared.board.CommitFault.{CommitFault}
use Rattle.search_core.specs.declared.board.CommitFault.TheVariants.{DiskFault, Full, NotHeld, Shut, NotClosing, OtherCuts, NoMemory}
use Rattle.search_core.specs.Board.{batches_of, bytes_of, floor_of_node, records_of}
use Rattle.search_core.specs.Book.{book_of, is_node_and}
use Rattle.search_core.specs.Core.{hand}
use Rattle.search_core.specs.Kept.{cuts_in}
use Rattle.search_core.specs.Steps.{is_cheaper, posts_of}
use Rattle.search_book.specs.PostLog.{PostLogView}
use Rattle.search_book.specs.Recorded.{RecordFails}

-- the posts of a worker's step over a log of posts
abbrev pub step_posts : {D : Type 0} → ℕ → StepPosts → PostLogView D → List Post
step_posts w step log = posts_of log.instance log.book w step

-- A step's posts are in the log as one record, by four calls, where the limit has room for it; where there are none, the log is
-- as it was. What was kept says what they made.
pub record RecordsStep {D : Type 0} (calls : D → ℕ) (w : ℕ) (step : StepPosts) (old new : PostLogView D) (kept : Kept) : Type 0 where
  pub log : new ≡ record old { disk = new.disk; history = old.history ++ step_posts w step old; batches = old.batches ++ batches_of (step_posts w step old); book = new.book; used = old.used + bytes_of (step_posts w step old) }
  pub four : calls new.disk ≡ calls old.disk + 4 * records_of (step_posts w step old)
  pub within : 0 < length (step_posts w step old) → old.used + bytes_of (step_posts w step old) ≤ old.limit
  pub idle : step_posts w step old ≡ [] → new ≡ old
  pub count : kept.records ≡ records_of (step_posts w step old)
  pub plan : kept.plan ≡ is_cheaper step.plan old.book
  pub best : kept.best ≡ new.book.cost
  pub floor : kept.floor ≡ floor_of_node new.book step.node

-- What a refused commit leaves of the log of posts: after a fault of the disk, which rose in the commit, all but the disk and
-- the posts in flight is as it was; where the record would end past the limit, only what shut it isn't; and else the log is
-- as it was.
abbrev pub LeavesLog : {D : Type 0} → (D → ℕ) → ℕ → StepPosts → PostLogView D → PostLogView D → CommitFault → Type 0
LeavesLog faults w step old new DiskFault = RecordFails faults old new (step_posts w step old) DiskFails
LeavesLog faults w step old new (Full end most) = RecordFails faults old new (step_posts w step old) (IsFull end most)
LeavesLog faults w step old new (NotHeld held) = new ≡ old
LeavesLog faults w step old new Shut = new ≡ old
LeavesLog faults w step old new (NotClosing floor best back) = new ≡ old
LeavesLog faults w step old new (OtherCuts at) = new ≡ old
LeavesLog faults w step old new NoMemory = new ≡ old

-- a journal's fault, as a board's
abbrev pub commit_fault_of : JournalFault → CommitFault
commit_fault_of DiskFails = DiskFault
commit_fault_of JournalsMemory = NoMemory
commit_fault_of NoJournal = NoMemory
commit_fault_of OldVersion = NoMemory
commit_fault_of (IsDamaged at) = NoMemory
commit_fault_of (IsFull end most) = Full end most

-- why a step's posts aren't recorded, and what the log is then
abbrev pub StepFails : {D : Type 0} → (D → ℕ) → ℕ → StepPosts → PostLogView D → PostLogView D → CommitFault → Type 0
StepFails faults w step old new DiskFault = (0 < length (step_posts w step old)) × RecordFails faults old new (step_posts w step old) DiskFails
StepFails faults w step old new (Full end most) =
    (0 < length (step_posts w step old)) × (length (step_posts w step old) ≤ 4) × IsSome (book_of old.instance (old.history ++ step_posts w step old))
    × RecordFails faults old new (step_posts w step old) (IsFull end most)
StepFails faults w step old new NoMemory = new ≡ old
StepFails faults w step old new (NotHeld held) = ⊥
StepFails faults w step old new Shut = ⊥
StepFails faults w step old new (NotClosing floor best back) = ⊥
StepFails faults w step old new (OtherCuts at) = ⊥

-- a step that a worker may commit: the log isn't shut, the worker holds the step's node, which is unsplit, and the prices are
-- for its cuts
pub record MayCommit {D : Type 0} (log : PostLogView D) (hands : List (Option ℕ)) (w : ℕ) (step : StepPosts) : Type 0 where
  pub running : log.shut ≡ None
  pub held : hand hands w ≡ Some step.node
  pub cuts : step.proved.cuts ≡ cuts_in log.book.nodes step.node
  pub few : length step.proved.cuts < 2 ^ 32
  pub unsplit : is_node_and log.book step.node (λ n. not n.split) ≡ true

-- why a worker may not commit a step
abbrev pub MayNot : {D : Type 0} → PostLogView D → List (Option ℕ) → ℕ → StepPosts → CommitFault → Type 0
MayNot log hands w step Shut = IsSome log.shut
MayNot log hands w step (NotHeld held) = (log.shut ≡ None) × (held ≡ hand hands w) × (held ≢ Some step.node)
MayNot log hands w step (OtherCuts at) = (log.shut ≡ None) × (hand hands w ≡ Some step.node) × DifferAt step.proved.cuts (cuts_in log.book.nodes step.node) at
MayNot log hands w step NoMemory = ⊤
MayNot log hands w step DiskFault = ⊥
MayNot log hands w step (Full end most) = ⊥
MayNot log hands w step (NotClosing floor best back) = ⊥
