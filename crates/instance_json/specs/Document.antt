-- Instance documents: the fields of their objects, and which problem each states.
use Rattle.std.specs.Prelude.{ℕ, min, codes, true, false, List, [], ◌∷◌, map, is_some, option_and_then, unwrap_or, if◌then◌else◌}
use Rattle.std.specs.Option.{option_map_or}
use Rattle.serde_json.specs.Data.{Data}
use Rattle.serde_json.specs.Find.{get, at, as_str, as_array, as_object}
use Rattle.break_rules.specs.declared.Lunch.{Lunch}
use Rattle.break_rules.specs.declared.Rule.{Rule}
use Rattle.break_rules.specs.Plain.{plain_rule}
use Rattle.shift_instance.specs.Kind.{Kind}
use Rattle.shift_instance.specs.Problem.{Problem}
use Rattle.instance_json.specs.declared.fields.Shape.{Shape}
use Rattle.instance_json.specs.declared.fields.Shape.TheVariants.{Number, Text, Array, Numbers, Pairs, Quadruples, Object, NullOrObject}
use Rattle.instance_json.specs.Fields.{Field, data_list, whole}

-- a field that has to be there, and one that may be missing
abbrev pub required : List ℕ → Shape → Field
required name shape = record { name = name; required = true; shape = shape }

abbrev pub optional : List ℕ → Shape → Field
optional name shape = record { name = name; required = false; shape = shape }

-- the fields of a document
unfoldable pub document_fields : List Field
document_fields =
    required (codes "slot_minutes") Number
    ∷ required (codes "days") Number
    ∷ required (codes "need") Numbers
    ∷ optional (codes "need_max") Numbers
    ∷ required (codes "max_heads") Number
    ∷ required (codes "weights") Object
    ∷ required (codes "types") Array
    ∷ []

-- the fields of a document's weights
unfoldable pub weights_fields : List Field
weights_fields = required (codes "excess") Number ∷ required (codes "shortage") Number ∷ required (codes "shift") Number ∷ []

-- the fields of a shift type
unfoldable pub type_fields : List Field
type_fields =
    required (codes "name") Text
    ∷ required (codes "start_min") Number
    ∷ required (codes "start_max") Number
    ∷ required (codes "len_min") Number
    ∷ required (codes "len_max") Number
    ∷ optional (codes "breaks") NullOrObject
    ∷ []

-- the fields of a type's break rule
unfoldable pub breaks_fields : List Field
breaks_fields =
    required (codes "lead") Number
    ∷ required (codes "tail") Number
    ∷ required (codes "work_min") Number
    ∷ required (codes "work_max") Number
    ∷ required (codes "long_work") Number
    ∷ required (codes "long_rest") Number
    ∷ required (codes "size_min") Number
    ∷ required (codes "size_max") Number
    ∷ required (codes "totals") Pairs
    ∷ optional (codes "lunches") Quadruples
    ∷ optional (codes "resettle") Number
    ∷ []

-- the items of an object's field
abbrev pub items_at : List ℕ → Data → List Data
items_at name d = option_map_or data_list (option_and_then as_array (get name d)) []

-- the number that a value is, up to the greatest one that is told apart
abbrev pub number_up_to : ℕ → Data → ℕ
number_up_to most d = min (unwrap_or (whole d) 0) most

-- the number of an object's field, up to that of 16 or of 32 bits
abbrev pub short_at : List ℕ → Data → ℕ
short_at name d = option_map_or (number_up_to 65535) (get name d) 0

abbrev pub long_at : List ℕ → Data → ℕ
long_at name d = option_map_or (number_up_to 4294967295) (get name d) 0

-- the numbers of an object's field, each up to that of 32 bits
abbrev pub longs_at : List ℕ → Data → List ℕ
longs_at name d = map (number_up_to 4294967295) (items_at name d)

-- the most wanted employees of each slot: those that the document states, and else its needs
abbrev pub stated_need_max : Data → List ℕ
stated_need_max d = if is_some (get (codes "need_max") d) then longs_at (codes "need_max") d else longs_at (codes "need") d

-- the number at a place of a list, up to that of 16 bits
abbrev pub short_in : ℕ → Data → ℕ
short_in place d = option_map_or (number_up_to 65535) (at place d) 0

-- the text of an object's field
abbrev pub text_at : List ℕ → Data → List ℕ
text_at name d = unwrap_or (option_and_then as_str (get name d)) []

-- a weight of a document, by its name
abbrev pub weight_of : List ℕ → Data → ℕ
weight_of name d = option_map_or (long_at name) (get (codes "weights") d) 0

-- an entry of a rule's totals, and a lunch entry
abbrev pub total_of : Data → ℕ × ℕ
total_of d = (short_in 0 d, short_in 1 d)

abbrev pub lunch_of : Data → Lunch
lunch_of d = record { from_len = short_in 0 d; size = short_in 1 d; first = short_in 2 d; last = short_in 3 d }

-- the break rule that an object states
unfoldable pub rule_of : Data → Rule
rule_of d = record {
  lead = short_at (codes "lead") d;
  tail = short_at (codes "tail") d;
  work_min = short_at (codes "work_min") d;
  work_max = short_at (codes "work_max") d;
  long_work = short_at (codes "long_work") d;
  long_rest = short_at (codes "long_rest") d;
  size_min = short_at (codes "size_min") d;
  size_max = short_at (codes "size_max") d;
  totals = map total_of (items_at (codes "totals") d);
  lunches = map lunch_of (items_at (codes "lunches") d);
  resettle = short_at (codes "resettle") d;
}

-- the rule that a type's breaks state: the plain rule, unless they are an object
abbrev pub stated_rule : Data → Rule
stated_rule breaks = if is_some (as_object breaks) then rule_of breaks else plain_rule

-- the shift type that a value states
unfoldable pub kind_of : Data → Kind
kind_of d = record {
  name = text_at (codes "name") d;
  start_min = short_at (codes "start_min") d;
  start_max = short_at (codes "start_max") d;
  len_min = short_at (codes "len_min") d;
  len_max = short_at (codes "len_max") d;
  rule = option_map_or stated_rule (get (codes "breaks") d) plain_rule;
}

-- the problem that a document states
unfoldable pub problem_of : Data → Problem
problem_of d = record {
  slot_minutes = short_at (codes "slot_minutes") d;
  days = short_at (codes "days") d;
  need = longs_at (codes "need") d;
  need_max = stated_need_max d;
  heads = short_at (codes "max_heads") d;
  excess = weight_of (codes "excess") d;
  shortage = weight_of (codes "shortage") d;
  shift = weight_of (codes "shift") d;
  kinds = map kind_of (items_at (codes "types") d);
}
