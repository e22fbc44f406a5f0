-- The numbers of the ends of a migration, and what is said of each.
use Rattle.std.specs.Prelude.{ℕ, List, [], ◌++◌, codes}
use Rattle.std.specs.Fmt.{decimal}
use Rattle.recovery.specs.FaultText.{why_text}
use Rattle.migrate_runs.specs.declared.status.MigrateStatus.{MigrateStatus}
use Rattle.migrate_runs.specs.declared.status.MigrateStatus.TheVariants.{Migrated, Usage, WriteFault, DiskFault, NoMemory, Old, Target}
use Rattle.migrate_runs.specs.declared.status.OldFault.{OldFault}
use Rattle.migrate_runs.specs.declared.status.OldFault.TheVariants.{NotAJournal, Damaged, Rejected, Head}

-- the number with which the program ends
abbrev pub status_number : MigrateStatus → ℕ
status_number Migrated = 0
status_number Usage = 2
status_number WriteFault = 6
status_number DiskFault = 7
status_number NoMemory = 8
status_number (Old why) = 9
status_number (Target len) = 13

-- what is said of a refused old journal, behind its number
abbrev pub old_text : OldFault → List ℕ
old_text NotAJournal = codes "old journal refused: 2"
old_text (Damaged at) = codes "old journal refused: 4 " ++ decimal at
old_text (Rejected at why) = codes "old journal refused: 5 " ++ (decimal at ++ (codes " " ++ why_text why))
old_text Head = codes "old journal refused: 6"

-- what is said of an end
abbrev pub status_text : MigrateStatus → List ℕ
status_text Migrated = []
status_text Usage = codes "usage: shift_migrate OLD NEW"
status_text WriteFault = codes "write fault"
status_text DiskFault = codes "disk fault"
status_text NoMemory = codes "no memory"
status_text (Old why) = old_text why
status_text (Target len) = codes "new file not empty, " ++ (decimal len ++ codes " bytes")
