-- How a migration ends.
use Rattle.migrate_runs.proofs.Common.{◌≡◌, ◌⊎◌, inl, inr, ⊎_elim, ℕ, ◌<◌, List, [], length, refl, sym, subst, arith, Option, None, Some, IfSome, OnSome, HoldsThroughout, IsSynced, started, told_all, Problem, Post, JOURNAL_MAX, CanMigrate, EndsEarly, Explains, HasFiles, IsCarried, IsDone, IsEarlierOrSame, IsOldBook, IsSameBook, Met, NewFails, OldBook, OldFails, SaysPosts, MigrateStatus, Migrated, Usage, WriteFault, DiskFault, NoMemory, Old, Target}
use Rattle.gated_journal.specs.View.{IsSettled, JournalView}
use Rattle.migrate_runs.proofs.Migrated.{same_book}

pub well_by_old : (met : Met) (status : MigrateStatus) → OldFails met.old.file met.old.faults.0 met.old.faults.1 status
    → ((i : Problem) (posts : List Post) (file : List ℕ) → met.old.file ≡ Some file → OldBook i posts file → (status ≡ NoMemory) ⊎ (status ≡ DiskFault)) → CanMigrate met → (status ≡ Migrated) ⊎ (status ≡ NoMemory)
well_by_old met status fails only can =
    ⊎_elim (λ memory. inr memory) (λ disk. absurd (can.well (inl (inl (subst (OldFails met.old.file met.old.faults.0 met.old.faults.1) disk fails))))) (only can.instance can.posts can.file can.told can.holds)

-- ---- where it is
same_files : (before after : Option (List ℕ)) (head : List ℕ) (records : List (List ℕ)) (n count : ℕ) (images : List ℕ → Type 0) → n ≡ length records → IsCarried before head records count
    → IsSettled (record { head = head; records = records; limit = JOURNAL_MAX; spare = 0 }) after images → IfSome before (λ b. IfSome after (λ a. IsSameBook b a n count))
same_files None after head records n count images is carried settled = tt
same_files (Some b) None head records n count images is carried settled = tt
same_files (Some b) (Some a) head records n count images is carried settled =
    subst (λ (m : ℕ). IsSameBook b a m count) (sym is) (same_book (Some b) head records count carried a settled.stands)

pub is_done : (met : Met) (head : List ℕ) (records : List (List ℕ)) (n count : ℕ) (images : List ℕ → Type 0) → n ≡ length records → IsCarried met.old.file head records count → IfSome met.new.file (λ file. file ≡ [])
    → IsSettled (record { head = head; records = records; limit = JOURNAL_MAX; spare = 0 }) met.new.file_after images → IsDone met n count
is_done met head records n count images is carried empty settled = record {
  empty = empty;
  same = same_files met.old.file met.new.file_after head records n count images is carried settled;
}

pub by_line : (met : Met) (n count : ℕ) (status : MigrateStatus) → HasFiles met → IsDone met n count → SaysPosts n count met.sink.held met.sink.held_after met.sink.faults status → Explains met status
by_line met n count Migrated files done says = (files, (n, count, done, says))
by_line met n count WriteFault files done says = (files, (n, count, done, says.0), says.1)
by_line met n count NoMemory files done says = files
by_line met n count Usage files done says = absurd says
by_line met n count DiskFault files done says = absurd says
by_line met n count (Old why) files done says = absurd says
by_line met n count (Target len) files done says = absurd says

-- ---- where the new file isn't touched
pub untouched : {D : Type 0} (calls : D → ℕ) (since : D → ℕ → List ℕ → Type 0) (reads : D → Option (List ℕ)) (images : D → List ℕ → Type 0) → ((d : D) (c : List ℕ) → since d (calls d) c → images d c) → (disk : D) (before : Option (List ℕ))
    → OnSome (reads disk) (HoldsThroughout calls since disk disk (IsEarlierOrSame (images disk) before))
untouched calls since reads images only_now disk before =
    told_all (reads disk) (HoldsThroughout calls since disk disk (IsEarlierOrSame (images disk) before))
    (started calls since disk (IsEarlierOrSame (images disk) before) (images disk) (only_now disk) (λ c now. inl now))
