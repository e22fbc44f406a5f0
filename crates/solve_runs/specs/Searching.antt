-- How a search over a disk ends, and what it says of the book that it hands back.
use Rattle.std.specs.Prelude.{◌≡◌, ◌⊎◌, ℕ, ◌<◌, Bool, true, false, List, [], Option, Some, Result, MatchResult}
use Rattle.plan_base.specs.Causes.{Rose}
use Rattle.gated_journal.specs.Format.{fresh}
use Rattle.shift_instance.specs.Problem.{Problem}
use Rattle.instance_json.specs.Canonical.{canonical_text}
use Rattle.search_book.specs.declared.open_fault.OpenFault.{OpenFault}
use Rattle.search_book.specs.declared.open_fault.OpenFault.TheVariants.{DiskFault as OpeningsDisk, NotAJournal, OtherInstance, Damaged, Rejected, NoMemory as OpeningsMemory, OldVersion}
use Rattle.search_book.specs.Search.{SearchView, board_of}
use Rattle.worker_gate.specs.declared.run.RunEnd.{RunEnd}
use Rattle.worker_gate.specs.declared.run.RunEnd.TheVariants.{Finished as FinishedEnd, Spent as SpentEnd, Full as FullEnd, DiskFault as DiskEnd, NoMemory as MemoryEnd, Stopped as StoppedEnd}
use Rattle.solve_runs.specs.declared.searched.SearchEnd.{SearchEnd}
use Rattle.solve_runs.specs.declared.searched.SearchEnd.TheVariants.{Finished, Spent, Full, Stopped, DiskFault, NoMemory, TooFewAdvisers, Refused}
use Rattle.solve_runs.specs.Ended.{HasEnded, IsLeft, IsRefused}
use Rattle.solve_runs.specs.Served.{AreUntold, ToldMet}
use Rattle.solve_runs.specs.Session.{met_of, DiskMet, IsUncalled, Session}
use Rattle.solve_runs.specs.Words.{workers_for}

-- how a search ends whose workers ended so
abbrev pub end_of : RunEnd → SearchEnd
end_of FinishedEnd = Finished
end_of SpentEnd = Spent
end_of (FullEnd end limit) = Full end limit
end_of DiskEnd = DiskFault
end_of MemoryEnd = NoMemory
end_of StoppedEnd = Stopped

-- how a search ends whose book isn't opened
abbrev pub end_unopened : OpenFault → SearchEnd
end_unopened OpeningsDisk = DiskFault
end_unopened OldVersion = Refused OldVersion
end_unopened NotAJournal = Refused NotAJournal
end_unopened (OtherInstance at) = Refused (OtherInstance at)
end_unopened (Damaged at) = Refused (Damaged at)
end_unopened (Rejected at why) = Refused (Rejected at why)
end_unopened OpeningsMemory = NoMemory

-- whether a search came to an end of which a report can be written
abbrev pub is_reported : SearchEnd → Bool
is_reported Finished = true
is_reported Spent = true
is_reported (Full end limit) = true
is_reported Stopped = true
is_reported DiskFault = false
is_reported NoMemory = false
is_reported (TooFewAdvisers asked have) = false
is_reported (Refused why) = false

-- a session is that of a book: the posts at the opening, those of each record since and those of the step during which the disk
-- failed, the book of the committed ones, the moment of the opening, and the bytes of the journal
pub record IsSessionOf {D : Type 0} (calls : D → ℕ) (book : SearchView D) {met : DiskMet} {i : Problem} (session : Session met i) : Type 0 where
  pub instance : book.log.instance ≡ i
  pub opening : book.log.opening ≡ session.opening
  pub batches : book.log.batches ≡ session.batches
  pub in_flight : book.log.in_flight ≡ session.in_flight
  pub last : book.log.book ≡ session.last
  pub since : calls book.log.opened ≡ session.since
  pub used : book.log.used ≡ session.used_after

-- The book that a search hands back, with what its workers did, from the disk that it was given to the book's: how they ended, the
-- session of the book, and that the book is the board with which they ended.
pub record HasSearched {D : Type 0} (reads : D → Option (List ℕ)) (images : D → List ℕ → Type 0) (images_since : D → ℕ → List ℕ → Type 0) (calls faults : D → ℕ) (disk : D) (i : Problem) (workers budget : ℕ) (told : ToldMet) (book : SearchView D) (end : SearchEnd) : Type 0 where
  pub how : RunEnd
  pub is : end ≡ end_of how
  pub session : Session (met_of reads images images_since calls faults disk book.log.disk) i
  pub own : IsSessionOf calls book session
  pub ended : HasEnded (met_of reads images images_since calls faults disk book.log.disk) i workers budget told how (board_of reads calls faults book) session

-- Why a search opened no book: there were too few advisers, and the disk wasn't called; the disk's file is refused, or the disk failed,
-- or there was no memory.
abbrev pub HasNotSearched : DiskMet → Problem → ℕ → ToldMet → SearchEnd → Type 0
HasNotSearched disk i workers told (TooFewAdvisers asked have) = IsUncalled disk × (told.after ≡ told.before) × (asked ≡ workers) × (have ≡ workers_for told.before) × (have < asked)
HasNotSearched disk i workers told (Refused why) = IsRefused disk i why × IsLeft disk i × AreUntold workers told
HasNotSearched disk i workers told DiskFault = Rose disk.faults.0 disk.faults.1 × IsLeft disk i × AreUntold workers told
HasNotSearched disk i workers told NoMemory =
    IsLeft disk i × AreUntold workers told × ((disk.file_after ≡ disk.file) ⊎ ((disk.file ≡ Some []) × (disk.file_after ≡ Some (fresh (canonical_text i)))))
HasNotSearched disk i workers told Finished = ⊥
HasNotSearched disk i workers told Spent = ⊥
HasNotSearched disk i workers told (Full end limit) = ⊥
HasNotSearched disk i workers told Stopped = ⊥

-- what a search answers that hands back a book or, where it opened none, the disk
abbrev pub SearchEnds : {D : Type 0} → (D → Option (List ℕ)) → (D → List ℕ → Type 0) → (D → ℕ → List ℕ → Type 0) → (D → ℕ) → (D → ℕ) → D → Problem → ℕ → ℕ → ToldMet → Result (SearchView D) D → SearchEnd → Type 0
SearchEnds reads images images_since calls faults disk i workers budget told book end =
    MatchResult book (λ book. HasSearched reads images images_since calls faults disk i workers budget told book end)
    (λ left. HasNotSearched (met_of reads images images_since calls faults disk left) i workers told end)
