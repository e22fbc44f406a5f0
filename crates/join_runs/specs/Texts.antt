-- The lines of refusals. Source: this project's own format.
use Rattle.std.specs.Prelude.{⊤, ℕ, ◌+◌, ◌<◌, ◌^◌, List, [], ◌++◌, codes}
use Rattle.std.specs.Fmt.{decimal}
use Rattle.cert_check.specs.declared.judged.Refused.{Refused as Refusal}
use Rattle.cert_check.specs.declared.judged.Refused.TheVariants.{BadSplit, BadPrice, NotSettled, BoundTooHigh, BadPlan, WrongCost, NoMemory as NoMemoryLeft}
use Rattle.check_runs.specs.declared.status.BundleFault.TheVariants.{TooLong, Text}
use Rattle.report_joins.specs.declared.fault.PartFault.{PartFault}
use Rattle.report_joins.specs.declared.fault.PartFault.TheVariants.{Refused, OtherLines, NothingFurther, NoEnd, OtherNode, OtherPlan, SameNode, TooMany, NoMemory}
use Rattle.join_runs.specs.declared.status.PartCause.{PartCause}
use Rattle.join_runs.specs.declared.status.PartCause.TheVariants.{NoReport, Fault}

-- the number and the numbers of a refusal of the checker; running out of memory is none
abbrev pub refused_numbers : Refusal → List ℕ
refused_numbers (BadSplit line) = codes "1 " ++ decimal line
refused_numbers (BadPrice line) = codes "2 " ++ decimal line
refused_numbers (NotSettled line) = codes "3 " ++ decimal line
refused_numbers (BoundTooHigh claimed found) = codes "4 " ++ (decimal claimed ++ (codes " " ++ decimal found))
refused_numbers (BadPlan row) = codes "5 " ++ decimal row
refused_numbers (WrongCost claimed found) = codes "6 " ++ (decimal claimed ++ (codes " " ++ decimal found))
refused_numbers NoMemoryLeft = []

-- the number and the numbers of why a report isn't a part; proof lines are told from 1 on
abbrev pub fault_numbers : PartFault → List ℕ
fault_numbers (Refused why) = codes "2 " ++ refused_numbers why
fault_numbers (OtherLines at) = codes "3 " ++ decimal (at + 1)
fault_numbers NothingFurther = codes "4"
fault_numbers (NoEnd node) = codes "5 " ++ decimal node
fault_numbers (OtherNode at) = codes "6 " ++ decimal (at + 1)
fault_numbers OtherPlan = codes "7"
fault_numbers (SameNode node) = codes "8 " ++ decimal node
fault_numbers TooMany = codes "9"
fault_numbers NoMemory = []

-- the number and the numbers of why a file isn't a part; one that is too long departs at line 0
abbrev pub cause_numbers : PartCause → List ℕ
cause_numbers (NoReport TooLong) = codes "1 0"
cause_numbers (NoReport (Text line)) = codes "1 " ++ decimal line
cause_numbers (Fault fault) = fault_numbers fault

-- what is said of a file that isn't a part, by its number among the parts
abbrev pub part_text : ℕ → PartCause → List ℕ
part_text part cause = codes "join refused " ++ (decimal part ++ (codes " " ++ cause_numbers cause))

-- what is said of a report that the checker refuses
abbrev pub refused_text : Refusal → List ℕ
refused_text why = codes "graft refused 1 " ++ refused_numbers why

-- something is said of each refusal but running out of memory
abbrev pub IsNamedRefusal : Refusal → Type 0
IsNamedRefusal NoMemoryLeft = ⊥
IsNamedRefusal why = ⊤

-- and of each cause
abbrev pub IsNamedFault : PartFault → Type 0
IsNamedFault (Refused why) = IsNamedRefusal why
IsNamedFault NoMemory = ⊥
IsNamedFault why = ⊤

abbrev pub IsNamed : PartCause → Type 0
IsNamed (NoReport why) = ⊤
IsNamed (Fault fault) = IsNamedFault fault

-- the place of a proof line has a number
abbrev pub HasPlace : PartFault → Type 0
HasPlace (OtherLines at) = at < 2 ^ 63
HasPlace (OtherNode at) = at < 2 ^ 63
HasPlace why = ⊤

abbrev pub HasPlaces : PartCause → Type 0
HasPlaces (NoReport why) = ⊤
HasPlaces (Fault fault) = HasPlace fault
