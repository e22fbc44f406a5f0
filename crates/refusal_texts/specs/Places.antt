-- Where in a document a refusal is, as a person writes it. Entries of lists count from 0.
use Rattle.std.specs.Prelude.{ℕ, ◌-◌, Bool, ◌||◌, ◌==◌, List, [], ◌++◌, codes, if◌then◌else◌}
use Rattle.std.specs.Fmt.{decimal}
use Rattle.std.specs.Str.{bytes_eq}
use Rattle.break_rules.specs.declared.RuleFault.{RuleFault}
use Rattle.break_rules.specs.declared.RuleFault.TheVariants as rule
use Rattle.shift_instance.specs.declared.InstanceFault.{InstanceFault}
use Rattle.shift_instance.specs.declared.InstanceFault.TheVariants as fault
use Rattle.instance_json.specs.declared.ReadRefusal.{ReadRefusal}
use Rattle.instance_json.specs.declared.ReadRefusal.TheVariants.{TooLong, NotJson, Missing, UnknownField, WrongKind, Invalid, NoMemory}

-- whether a name is that of a weight
abbrev pub is_of_weights : List ℕ → Bool
is_of_weights field = bytes_eq field (codes "excess") || bytes_eq field (codes "shortage") || bytes_eq field (codes "shift")

-- whether a name is that of a shift type's own field; the others are those of its breaks
abbrev pub is_of_type : List ℕ → Bool
is_of_type field =
    bytes_eq field (codes "name") || bytes_eq field (codes "start_min") || bytes_eq field (codes "start_max")
    || bytes_eq field (codes "len_min") || bytes_eq field (codes "len_max") || bytes_eq field (codes "breaks")

-- a type of a number
abbrev pub type_text : ℕ → List ℕ
type_text kind = codes "types[" ++ (decimal kind ++ codes "]")

-- a field of the document, or of its weights
abbrev pub place_in_document : List ℕ → List ℕ
place_in_document field = if is_of_weights field then codes "weights." ++ field else field

-- a field of a type, or of its breaks; the type itself where the field is that of types
abbrev pub place_in_type : ℕ → List ℕ → List ℕ
place_in_type kind field =
    if bytes_eq field (codes "types") then type_text kind
    else (if is_of_type field then codes "types[" ++ (decimal kind ++ (codes "]." ++ field))
    else codes "types[" ++ (decimal kind ++ (codes "].breaks." ++ field)))

-- a field by the number of a refusal: 0 for the document, and 1 for the first type
abbrev pub field_place : ℕ → List ℕ → List ℕ
field_place at field = if at == 0 then place_in_document field else place_in_type (at - 1) field

-- the first field that a fault of a break rule concerns; which number is too large is told behind it
abbrev pub rule_place : ℕ → RuleFault → List ℕ
rule_place kind rule.WorkRange = codes "types[" ++ (decimal kind ++ codes "].breaks.work_min")
rule_place kind rule.SizeRange = codes "types[" ++ (decimal kind ++ codes "].breaks.size_min")
rule_place kind rule.TotalsOrder = codes "types[" ++ (decimal kind ++ codes "].breaks.totals")
rule_place kind rule.LunchOrder = codes "types[" ++ (decimal kind ++ codes "].breaks.lunches")
rule_place kind rule.Resettle = codes "types[" ++ (decimal kind ++ codes "].breaks.resettle")
rule_place kind rule.TooLarge = codes "types[" ++ (decimal kind ++ codes "].breaks.")

-- the first field that a fault of the numbers concerns; which weight is too large is told behind it
abbrev pub fault_place : InstanceFault → List ℕ
fault_place fault.SlotMinutes = codes "slot_minutes"
fault_place fault.Days = codes "days"
fault_place (fault.NeedLength found wanted) = codes "need"
fault_place (fault.NeedTooLarge slot) = codes "need[" ++ (decimal slot ++ codes "]")
fault_place fault.Weight = codes "weights."
fault_place fault.Heads = codes "max_heads"
fault_place (fault.Types found) = codes "types"
fault_place (fault.StartRange kind) = codes "types[" ++ (decimal kind ++ codes "].start_min")
fault_place (fault.LengthRange kind) = codes "types[" ++ (decimal kind ++ codes "].len_min")
fault_place (fault.Rule kind why) = rule_place kind why
fault_place (fault.TooManyShifts found) = codes "types"
fault_place (fault.Name kind) = codes "types[" ++ (decimal kind ++ codes "].name")
fault_place (fault.BandLength found wanted) = codes "need_max"
fault_place (fault.Band slot) = codes "need_max[" ++ (decimal slot ++ codes "]")
fault_place fault.NoMemory = []

-- the place of a refusal, as far as the refusal itself tells it
abbrev pub refusal_place : ReadRefusal → List ℕ
refusal_place TooLong = codes "document"
refusal_place NotJson = codes "document"
refusal_place (Missing at field) = field_place at field
refusal_place (UnknownField at field) = if at == 0 then [] else type_text (at - 1)
refusal_place (WrongKind at field) = field_place at field
refusal_place (Invalid fault) = fault_place fault
refusal_place NoMemory = []
