-- How the faults of an instance are shown.
use Rattle.std.specs.Prelude.{ℕ, List, ◌++◌, codes}
use Rattle.std.specs.Fmt.{decimal}
use Rattle.break_rules.specs.RuleFaults.{rule_fault_text}
use Rattle.shift_instance.specs.declared.InstanceFault.{InstanceFault}
use Rattle.shift_instance.specs.declared.InstanceFault.TheVariants.{SlotMinutes, Days, NeedLength, NeedTooLarge, Weight, Heads, Types, StartRange, LengthRange, Rule, TooManyShifts, Name, BandLength, Band, NoMemory}

-- a fault's number, and then its fields, separated by single spaces
abbrev pub instance_fault_text : InstanceFault → List ℕ
instance_fault_text SlotMinutes = codes "1"
instance_fault_text Days = codes "2"
instance_fault_text (NeedLength found wanted) = codes "3 " ++ decimal found ++ codes " " ++ decimal wanted
instance_fault_text (NeedTooLarge slot) = codes "4 " ++ decimal slot
instance_fault_text Weight = codes "5"
instance_fault_text Heads = codes "6"
instance_fault_text (Types found) = codes "7 " ++ decimal found
instance_fault_text (StartRange kind) = codes "8 " ++ decimal kind
instance_fault_text (LengthRange kind) = codes "9 " ++ decimal kind
instance_fault_text (Rule kind why) = codes "10 " ++ decimal kind ++ codes " " ++ rule_fault_text why
instance_fault_text (TooManyShifts found) = codes "11 " ++ decimal found
instance_fault_text (Name kind) = codes "12 " ++ decimal kind
instance_fault_text (BandLength found wanted) = codes "13 " ++ decimal found ++ codes " " ++ decimal wanted
instance_fault_text (Band slot) = codes "14 " ++ decimal slot
instance_fault_text NoMemory = codes "no memory"
