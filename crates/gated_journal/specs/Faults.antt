-- When each fault comes.
use Rattle.std.specs.Prelude.{◌≡◌, ℕ, List, ◌≤◌, ◌<◌, ◌⊎◌, ⊤, length, Option, IfSome}
use Rattle.plan_base.specs.Causes.{Rose}
use Rattle.gated_journal.specs.Cuts.{IsCutAt, IsNoJournal, IsNoneIn, IsOldVersion}
use Rattle.gated_journal.specs.declared.fault.JournalFault.{JournalFault}
use Rattle.gated_journal.specs.declared.fault.JournalFault.TheVariants.{DiskFault, NotAJournal, Damaged, Full, NoMemory, OldVersion}

-- why a put fails: the disk failed, or the record passes the limit
abbrev pub PutFails : ℕ → ℕ → ℕ → ℕ → JournalFault → Type 0
PutFails before now end limit DiskFault = Rose before now × (end ≤ limit)
PutFails before now end limit (Full e l) = (e ≡ end) × (l ≡ limit) × (limit < end)
PutFails before now end limit NotAJournal = ⊥
PutFails before now end limit (Damaged at) = ⊥
PutFails before now end limit NoMemory = ⊥
PutFails before now end limit OldVersion = ⊥

-- why a journal isn't made, or bytes aren't read: the disk failed, or no memory is left
abbrev pub CreateFails : ℕ → ℕ → JournalFault → Type 0
CreateFails before now DiskFault = Rose before now
CreateFails before now NoMemory = ⊤
CreateFails before now NotAJournal = ⊥
CreateFails before now (Damaged at) = ⊥
CreateFails before now (Full e l) = ⊥
CreateFails before now OldVersion = ⊥

-- why the records behind a header aren't read: the file is cut off, or no memory is left
abbrev pub ParseFails : ℕ → List ℕ → List ℕ → JournalFault → Type 0
ParseFails digit head file (Damaged at) = IsCutAt digit head file at
ParseFails digit head file NoMemory = ⊤
ParseFails digit head file DiskFault = ⊥
ParseFails digit head file NotAJournal = ⊥
ParseFails digit head file (Full e l) = ⊥
ParseFails digit head file OldVersion = ⊥

-- the file is longer than the limit, which is the place, or it isn't and is cut off at the place
abbrev pub IsDamagedIn : ℕ → ℕ → List ℕ → ℕ → Type 0
IsDamagedIn digit limit file at = ((limit < length file) × (at ≡ limit)) ⊎ ((length file ≤ limit) × ((head : List ℕ) × IsCutAt digit head file at))

-- so in the version that is written now
abbrev pub IsDamagedAt : ℕ → List ℕ → ℕ → Type 0
IsDamagedAt limit file at = IsDamagedIn 50 limit file at

-- why a file isn't opened, by what the disk reads: it is of the first version, or it is no journal, or it is one and damaged, or the
-- disk failed, or no memory is left
abbrev pub OpenFails : ℕ → Option (List ℕ) → ℕ → ℕ → JournalFault → Type 0
OpenFails limit reads before now OldVersion = IfSome reads IsOldVersion
OpenFails limit reads before now NotAJournal = IfSome reads (λ file. (IsOldVersion file → ⊥) × IsNoJournal file)
OpenFails limit reads before now (Damaged at) = IfSome reads (λ file. (IsNoJournal file → ⊥) × IsDamagedAt limit file at)
OpenFails limit reads before now DiskFault = Rose before now
OpenFails limit reads before now NoMemory = ⊤
OpenFails limit reads before now (Full e l) = ⊥

-- why a file isn't opened as one of the first version
abbrev pub OpenV1Fails : ℕ → Option (List ℕ) → ℕ → ℕ → JournalFault → Type 0
OpenV1Fails limit reads before now OldVersion = ⊥
OpenV1Fails limit reads before now NotAJournal = IfSome reads (IsNoneIn 49)
OpenV1Fails limit reads before now (Damaged at) = IfSome reads (λ file. (IsNoneIn 49 file → ⊥) × IsDamagedIn 49 limit file at)
OpenV1Fails limit reads before now DiskFault = Rose before now
OpenV1Fails limit reads before now NoMemory = ⊤
OpenV1Fails limit reads before now (Full e l) = ⊥

-- why a file isn't read in a version, where a file of the first one is told apart by the second alone
abbrev pub ReadFails : ℕ → ℕ → Option (List ℕ) → ℕ → ℕ → JournalFault → Type 0
ReadFails digit limit reads before now OldVersion = (digit ≡ 50) × IfSome reads IsOldVersion
ReadFails digit limit reads before now NotAJournal = IfSome reads (λ file. (digit ≡ 50 → IsOldVersion file → ⊥) × IsNoneIn digit file)
ReadFails digit limit reads before now (Damaged at) = IfSome reads (λ file. (IsNoneIn digit file → ⊥) × IsDamagedIn digit limit file at)
ReadFails digit limit reads before now DiskFault = Rose before now
ReadFails digit limit reads before now NoMemory = ⊤
ReadFails digit limit reads before now (Full e l) = ⊥

-- why bytes that are no journal of a version are refused, whatever stands behind them
abbrev pub StartFails : ℕ → List ℕ → JournalFault → Type 0
StartFails digit start OldVersion = (digit ≡ 50) × IsOldVersion start
StartFails digit start NotAJournal = digit ≡ 50 → IsOldVersion start → ⊥
StartFails digit start (Damaged at) = ⊥
StartFails digit start DiskFault = ⊥
StartFails digit start NoMemory = ⊥
StartFails digit start (Full e l) = ⊥
