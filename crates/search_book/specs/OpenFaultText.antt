-- How a refusal of an opening is shown. Source: this project's own format.
use Rattle.std.specs.Prelude.{ℕ, List, ◌++◌, codes}
use Rattle.std.specs.Fmt.{decimal}
use Rattle.recovery.specs.FaultText.{why_text}
use Rattle.search_book.specs.declared.open_fault.OpenFault.{OpenFault}
use Rattle.search_book.specs.declared.open_fault.OpenFault.TheVariants.{DiskFault, NotAJournal, OtherInstance, Damaged, Rejected, NoMemory, OldVersion}

-- a refusal's number, and then its fields in their order, separated by spaces
abbrev pub open_fault_text : OpenFault → List ℕ
open_fault_text DiskFault = codes "1"
open_fault_text NotAJournal = codes "2"
open_fault_text (OtherInstance at) = codes "3 " ++ decimal at
open_fault_text (Damaged at) = codes "4 " ++ decimal at
open_fault_text (Rejected at why) = codes "5 " ++ decimal at ++ codes " " ++ why_text why
open_fault_text NoMemory = codes "no memory"
open_fault_text OldVersion = codes "7"
