-- Why a disk's file isn't opened as the journal of an instance.
use Rattle.std.specs.Prelude.{◌≡◌, ◌≢◌, ◌⊎◌, ⊤, ℕ, List, [], Option, Some, IfSome}
use Rattle.plan_base.specs.Causes.{Rose}
use Rattle.gated_journal.specs.Cuts.{IsNoJournal, IsOldVersion}
use Rattle.gated_journal.specs.Faults.{IsDamagedAt}
use Rattle.gated_journal.specs.declared.fault.JournalFault.{JournalFault}
use Rattle.gated_journal.specs.declared.fault.JournalFault.TheVariants.{DiskFault as JournalsDisk, NoMemory as JournalsMemory, NotAJournal as NoJournal, Damaged as IsDamaged, Full, OldVersion as IsOld}
use Rattle.gated_journal.specs.Format.{StandsFor, fresh}
use Rattle.head_splits.specs.Cuts.{DifferAt}
use Rattle.search_book.specs.declared.open_fault.OpenFault.{OpenFault}
use Rattle.search_book.specs.declared.open_fault.OpenFault.TheVariants.{DiskFault, NotAJournal, OtherInstance, Damaged, Rejected, NoMemory, OldVersion}

-- a journal whose header differs from a text, first at that place
pub record HasOtherHead (limit : ℕ) (text : List ℕ) (at : ℕ) (file : List ℕ) : Type 0 where
  pub head : List ℕ
  pub records : List (List ℕ)
  pub stands : StandsFor limit head records file
  pub differ : DifferAt head text at

-- a journal that is damaged at that place
abbrev pub IsDamagedFile : ℕ → ℕ → List ℕ → Type 0
IsDamagedFile limit at file = (IsNoJournal file → ⊥) × IsDamagedAt limit file at

-- a file that isn't of the first version, and no journal
abbrev pub IsNoneFile : List ℕ → Type 0
IsNoneFile file = (IsOldVersion file → ⊥) × IsNoJournal file

-- why no journal with that header is opened, where the file isn't empty: the disk failed, or the file is of the first version, or none, or damaged,
-- or has another header, or no memory is left
abbrev pub HeadCause : ℕ → List ℕ → Option (List ℕ) → ℕ → ℕ → OpenFault → Type 0
HeadCause limit text reads before now DiskFault = Rose before now
HeadCause limit text reads before now OldVersion = IfSome reads IsOldVersion
HeadCause limit text reads before now NotAJournal = IfSome reads (λ file. (file ≢ []) × IsNoneFile file)
HeadCause limit text reads before now (Damaged at) = IfSome reads (λ file. (file ≢ []) × IsDamagedFile limit at file)
HeadCause limit text reads before now (OtherInstance at) = IfSome reads (λ file. (file ≢ []) × HasOtherHead limit text at file)
HeadCause limit text reads before now (Rejected at why) = ⊥
HeadCause limit text reads before now NoMemory = ⊤

-- a journal's fault, as a book's
abbrev pub of_journal_fault : JournalFault → OpenFault
of_journal_fault JournalsDisk = DiskFault
of_journal_fault JournalsMemory = NoMemory
of_journal_fault NoJournal = NotAJournal
of_journal_fault (IsDamaged at) = Damaged at
of_journal_fault (Full end limit) = NoMemory
of_journal_fault IsOld = OldVersion

-- A disk reads as before, except that an empty file's content is open where the disk failed, and may be the new journal where
-- memory ran out.
abbrev pub KeepsHead : List ℕ → Option (List ℕ) → Option (List ℕ) → OpenFault → Type 0
KeepsHead head before after DiskFault = (after ≡ before) ⊎ (before ≡ Some [])
KeepsHead head before after OldVersion = after ≡ before
KeepsHead head before after NotAJournal = after ≡ before
KeepsHead head before after (Damaged at) = after ≡ before
KeepsHead head before after (OtherInstance at) = after ≡ before
KeepsHead head before after (Rejected at why) = after ≡ before
KeepsHead head before after NoMemory = (after ≡ before) ⊎ ((before ≡ Some []) × (after ≡ Some (fresh head)))
