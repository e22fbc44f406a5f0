-- The fields of a JSON object: which it has, and of which kind.
use Rattle.std.specs.Prelude.{ℕ, Bool, false, not, ◌&&◌, ◌||◌, ◌==◌, List, [], ◌∷◌, length, is_some, is_none, option_and_then, Option}
use Rattle.std.specs.Option.{option_map_or}
use Rattle.std.specs.List.{list_all, list_any}
use Rattle.std.specs.Str.{bytes_eq}
use Rattle.serde_json.specs.Data.{Data, Items, no_items, item, Members, no_members, member}
use Rattle.serde_json.specs.Find.{get, as_null, as_number, as_u64, as_str, as_array, as_object}
use Rattle.instance_json.specs.declared.fields.Shape.{Shape}
use Rattle.instance_json.specs.declared.fields.Shape.TheVariants.{Number, Text, Array, Numbers, Pairs, Quadruples, Object, NullOrObject}

-- a field of an object: its name, whether it is required, and the kind of its value
pub record Field : Type 0 where
  pub name : List ℕ
  pub required : Bool
  pub shape : Shape

-- the items of a list, in order
abbrev pub data_list : Items → List Data
data_list no_items = []
data_list (item d ds) = d ∷ data_list ds

-- the names of an object's members, in order
abbrev pub member_names : Members → List (List ℕ)
member_names no_members = []
member_names (member name d ms) = name ∷ member_names ms

-- the number that a value is, where it is a whole number below 2^64
abbrev pub whole : Data → Option ℕ
whole d = option_and_then as_u64 (as_number d)

-- whether a value is a list of whole numbers
abbrev pub are_numbers : Data → Bool
are_numbers d = option_map_or (λ ds. list_all (λ x. is_some (whole x)) (data_list ds)) (as_array d) false

-- whether a value is a list of that many items
abbrev pub is_wide : ℕ → Data → Bool
is_wide wide d = option_map_or (λ ds. length (data_list ds) == wide) (as_array d) false

-- whether a value is a list of that many whole numbers
abbrev pub is_row : ℕ → Data → Bool
is_row wide d = are_numbers d && is_wide wide d

-- whether a value is a list of such lists
abbrev pub are_rows : ℕ → Data → Bool
are_rows wide d = option_map_or (λ ds. list_all (is_row wide) (data_list ds)) (as_array d) false

-- whether a value is of a kind
abbrev pub has_shape : Shape → Data → Bool
has_shape Number d = is_some (whole d)
has_shape Text d = is_some (as_str d)
has_shape Array d = is_some (as_array d)
has_shape Numbers d = are_numbers d
has_shape Pairs d = are_rows 2 d
has_shape Quadruples d = are_rows 4 d
has_shape Object d = is_some (as_object d)
has_shape NullOrObject d = is_some (as_null d) || is_some (as_object d)

-- the names of an object's members, in order
abbrev pub names_of : Data → List (List ℕ)
names_of d = option_map_or member_names (as_object d) []

-- whether a name is that of one of these fields
abbrev pub is_known : List Field → List ℕ → Bool
is_known fields name = list_any (λ f. bytes_eq f.name name) fields

-- whether a required field isn't there
abbrev pub is_missing : Data → Field → Bool
is_missing d f = f.required && is_none (get f.name d)

-- whether a field is there with a value of another kind
abbrev pub is_misshapen : Data → Field → Bool
is_misshapen d f = option_map_or (λ x. not (has_shape f.shape x)) (get f.name d) false
