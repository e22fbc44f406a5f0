-- Why a header isn't found on a disk.
use Rattle.search_book.proofs.Common.{◌≡◌, ◌≢◌, ℕ, ◌≤◌, List, [], length, ◌∙◌, ap, arith, IfSome, Rose, JournalFault, NoMemory, NotAJournal, Damaged, OldVersion, of_journal_fault, HeadCause, IsDamagedFile}
use Rattle.gated_journal.specs.Faults.{OpenFails as JournalFails}
use Rattle.std.specs.Prelude.{Option, None, Some}
use Rattle.gated_journal.specs.declared.fault.JournalFault.TheVariants.{DiskFault, Full}

some_file : (file : List ℕ) (len : ℕ) → len ≡ length file → (len ≡ 0 → ⊥) → file ≢ []
some_file file len is some e = some (is ∙ ap length e)

with_some : (len : ℕ) (o : Option (List ℕ)) (P : List ℕ → Type 0) → IfSome o (λ file. len ≡ length file) → (len ≡ 0 → ⊥) → IfSome o P → IfSome o (λ file. (file ≢ []) × P file)
with_some len None P is some holds = tt
with_some len (Some file) P is some holds = (some_file file len is some, holds)

pub head_cause : (limit len : ℕ) (text : List ℕ) (o : Option (List ℕ)) (before mid now : ℕ) → before ≤ mid → IfSome o (λ file. len ≡ length file) → (len ≡ 0 → ⊥) → (e : JournalFault) → JournalFails limit o mid now e → HeadCause limit text o before now (of_journal_fault e)
head_cause limit len text o before mid now le is some DiskFault rose = let r : Rose mid now = rose in omega arith
head_cause limit len text o before mid now le is some NoMemory fails = tt
head_cause limit len text o before mid now le is some NotAJournal bad = with_some len o _ is some bad
head_cause limit len text o before mid now le is some (Damaged at) bad = with_some len o (IsDamagedFile limit at) is some bad
head_cause limit len text o before mid now le is some (Full end most) fails = absurd fails
head_cause limit len text o before mid now le is some OldVersion old = old
