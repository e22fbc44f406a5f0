-- The records of a disk's journal, below the book.
use Rattle.std.specs.Prelude.{◌≡◌, ◌≢◌, ℕ, ◌+◌, ◌*◌, ◌≤◌, ◌<◌, ◌^◌, List, [], ◌∷◌, ◌++◌, length, Option, None, Some, OnSome, IfSome, Vec}
use Rattle.std.specs.declared.snapshot.Snapshot.{Snapshot}
use Rattle.std.specs.declared.alloc.Global.{Global}
use Rattle.plan_base.specs.Causes.{Rose}
use Rattle.plan_base.specs.Disk.{TellsAlike}
use Rattle.gated_journal.specs.Format.{end_after}
use Rattle.gated_journal.specs.View.{JournalView, IsStored}
use Rattle.gated_journal.specs.declared.fault.JournalFault.{JournalFault}
use Rattle.gated_journal.specs.declared.fault.JournalFault.TheVariants.{DiskFault, NoMemory, NotAJournal, Damaged, Full, OldVersion}
use Rattle.search_book.specs.Prefix.{HoldsPrefix}

pub record LogView (D : Type 0) : Type 0 where
  pub disk : D
  pub head : List ℕ
  pub limit : ℕ
  -- each record that was made sure of, from the file's first one on
  pub records : List (List ℕ)
  -- the record of a put that ended in a disk fault
  pub in_flight : List (List ℕ)
  -- how many records the file had when it was opened, and the disk at that moment
  pub opening : ℕ
  pub opened : D
  -- how many were added since
  pub added : ℕ
  -- the most bytes of a record for which there is room
  pub spare : ℕ

-- For every b, each image since the b-th of the added records was made sure of holds a front of the run with those b
-- records in it.
abbrev pub RecordsLast : {D : Type 0} → (D → Option (List ℕ)) → (D → ℕ → List ℕ → Type 0) → (D → ℕ) → LogView D → Type 0
RecordsLast reads images_since calls log =
    OnSome (reads log.disk) ((b : ℕ) (image : List ℕ) → b ≤ log.added → images_since log.disk (calls log.opened + 4 * b) image
    → HoldsPrefix log.limit log.head (log.records ++ log.in_flight) (log.opening + b) image)

-- the journal that a log stands for
abbrev pub journal_of : {D : Type 0} → LogView D → JournalView
journal_of log = record { head = log.head; records = log.records; limit = log.limit; spare = log.spare }

-- while no put has ended in a fault, the disk stands for the records, and each record took four calls
pub record IsRunningLog {D : Type 0} (reads : D → Option (List ℕ)) (images : D → List ℕ → Type 0) (calls : D → ℕ) (log : LogView D) : Type 0 where
  pub stored : IfSome (reads log.disk) (IsStored (journal_of log) (images log.disk))
  pub time : calls log.disk ≡ calls log.opened + 4 * log.added

-- what is known of a log at each moment
pub record IsLog {D : Type 0} (reads : D → Option (List ℕ)) (images : D → List ℕ → Type 0) (images_since : D → ℕ → List ℕ → Type 0) (calls faults : D → ℕ) (log : LogView D) : Type 0 where
  pub running : log.in_flight ≡ [] → IsRunningLog reads images calls log
  pub counted : length log.records ≡ log.opening + log.added
  pub early : calls log.opened < 2 ^ 62 + 2 ^ 34
  pub few : log.added ≤ log.limit
  pub small : log.limit ≤ 2 ^ 26
  pub telling : TellsAlike (reads log.opened) (reads log.disk)
  pub later : faults log.opened ≤ faults log.disk
  pub cause : log.in_flight ≢ [] → Rose (faults log.opened) (faults log.disk)
  -- the last of the added records was acknowledged by now
  pub moment : calls log.opened + 4 * log.added ≤ calls log.disk
  -- and since then no more than the calls of one more were made
  pub most : calls log.disk ≤ calls log.opened + 4 * log.added + 4
  pub lasts : RecordsLast reads images_since calls log

-- the bytes of a record in flight
abbrev pub flight_of : Option (Snapshot (Vec ℕ Global)) → List (List ℕ)
flight_of None = []
flight_of (Some record_) = record_.value.items ∷ []

-- why a record isn't added, and what the log is then
abbrev pub AddFails : {D : Type 0} → (D → ℕ) → LogView D → LogView D → List ℕ → JournalFault → Type 0
AddFails faults old new bytes DiskFault = (new ≡ record old { disk = new.disk; in_flight = bytes ∷ [] }) × (end_after old.head old.records (length bytes) ≤ old.limit) × Rose (faults old.disk) (faults new.disk)
AddFails faults old new bytes (Full end limit) = (new ≡ old) × (end ≡ end_after old.head old.records (length bytes)) × (limit ≡ old.limit) × (limit < end)
AddFails faults old new bytes NoMemory = ⊥
AddFails faults old new bytes NotAJournal = ⊥
AddFails faults old new bytes OldVersion = ⊥
AddFails faults old new bytes (Damaged at) = ⊥
