-- How a JSON value departs from an instance document.
use Rattle.std.specs.Prelude.{ℕ, codes, not, List, [], ◌∷◌, map, find, take, if◌then◌else◌, Option, Some, None, is_some, option_map, option_and_then}
use Rattle.std.specs.List.{enumerate_from}
use Rattle.std.specs.Str.Lossy.{utf8_valid_len}
use Rattle.serde_json.specs.Data.{Data}
use Rattle.serde_json.specs.Find.{get, as_object}
use Rattle.instance_json.specs.declared.ReadRefusal.{ReadRefusal}
use Rattle.instance_json.specs.declared.ReadRefusal.TheVariants.{Missing, UnknownField, WrongKind}
use Rattle.instance_json.specs.Document.{document_fields, weights_fields, type_fields, breaks_fields, items_at}
use Rattle.instance_json.specs.Fields.{Field, names_of, is_known, is_missing, is_misshapen}

-- the first that is there
abbrev pub first_some : {E : Type 0} → List (Option E) → Option E
first_some [] = None
first_some (None ∷ os) = first_some os
first_some (Some e ∷ os) = Some e

-- as much of a name as a refusal shows: its longest beginning of whole characters that has at most 64 bytes
unfoldable pub shown : List ℕ → List ℕ
shown name = take (utf8_valid_len (take 64 name)) name

-- how an object departs from a table of fields: by its first name that the table lacks, names standing in byte order
abbrev pub unknown_departure : ℕ → List Field → Data → Option ReadRefusal
unknown_departure at fields d = option_map (λ name. UnknownField at (shown name)) (find (λ name. not (is_known fields name)) (names_of d))

-- by the first required field that it lacks
abbrev pub missing_departure : ℕ → List Field → Data → Option ReadRefusal
missing_departure at fields d = option_map (λ f. Missing at f.name) (find (is_missing d) fields)

-- by the first field whose value is of another kind
abbrev pub kind_departure : ℕ → List Field → Data → Option ReadRefusal
kind_departure at fields d = option_map (λ f. WrongKind at f.name) (find (is_misshapen d) fields)

-- the first of these three
unfoldable pub object_departure : ℕ → List Field → Data → Option ReadRefusal
object_departure at fields d = first_some (unknown_departure at fields d ∷ missing_departure at fields d ∷ kind_departure at fields d ∷ [])

-- how a type's breaks depart: as an object, where they are one
abbrev pub breaks_departure : ℕ → Data → Option ReadRefusal
breaks_departure at breaks = if is_some (as_object breaks) then object_departure at breaks_fields breaks else None

-- how a shift type departs, by its own fields and then by its breaks, given the place by which a refusal names it
unfoldable pub type_departure : ℕ × Data → Option ReadRefusal
type_departure p =
    if is_some (as_object p.1) then first_some (object_departure p.0 type_fields p.1 ∷ option_and_then (breaks_departure p.0) (get (codes "breaks") p.1) ∷ [])
    else Some (WrongKind p.0 (codes "types"))

-- how the weights depart, and the types, numbered from 1 on
abbrev pub weights_departure : Data → Option ReadRefusal
weights_departure d = option_and_then (object_departure 0 weights_fields) (get (codes "weights") d)

abbrev pub types_departure : Data → Option ReadRefusal
types_departure d = first_some (map type_departure (enumerate_from 1 (items_at (codes "types") d)))

-- how a value departs from a document: as an object, then by its weights, and then by its first type that departs
unfoldable pub document_departure : Data → Option ReadRefusal
document_departure d =
    if is_some (as_object d) then first_some (object_departure 0 document_fields d ∷ weights_departure d ∷ types_departure d ∷ [])
    else Some (WrongKind 0 (codes "document"))
