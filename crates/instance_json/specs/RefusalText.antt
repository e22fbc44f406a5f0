-- How refusals are shown.
use Rattle.std.specs.Prelude.{ℕ, List, ◌++◌, codes}
use Rattle.std.specs.Fmt.{decimal}
use Rattle.shift_instance.specs.FaultText.{instance_fault_text}
use Rattle.instance_json.specs.declared.ReadRefusal.{ReadRefusal}
use Rattle.instance_json.specs.declared.ReadRefusal.TheVariants.{TooLong, NotJson, Missing, UnknownField, WrongKind, Invalid, NoMemory}

-- a refusal's number, and then its fields, separated by single spaces
abbrev pub refusal_text : ReadRefusal → List ℕ
refusal_text TooLong = codes "1"
refusal_text NotJson = codes "2"
refusal_text (Missing at field) = codes "3 " ++ decimal at ++ codes " " ++ field
refusal_text (UnknownField at field) = codes "4 " ++ decimal at ++ codes " " ++ field
refusal_text (WrongKind at field) = codes "5 " ++ decimal at ++ codes " " ++ field
refusal_text (Invalid fault) = codes "6 " ++ instance_fault_text fault
refusal_text NoMemory = codes "no memory"
