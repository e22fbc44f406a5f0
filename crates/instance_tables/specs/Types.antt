-- The shift types of an instance as a table.
use Rattle.std.specs.Prelude.{ℕ, Bool, ◌&&◌, ◌==◌, List, [], ◌∷◌, ◌++◌, codes, length, if◌then◌else◌}
use Rattle.std.specs.List.{flat_map}
use Rattle.csv.specs.Writing.{default_writer, row_text}
use Rattle.table_records.specs.Guarding.{guarded}
use Rattle.break_rules.specs.declared.Rule.{Rule}
use Rattle.shift_instance.specs.Kind.{Kind}
use Rattle.shift_instance.specs.Problem.{Problem}
use Rattle.instance_tables.specs.Times.{slots_text}

-- whether a rule is the plain one
abbrev pub is_plain : Rule → Bool
is_plain r =
    (r.lead == 0) && (r.tail == 0) && (r.work_min == 1) && (r.work_max == 288) && (r.long_work == 288) && (r.long_rest == 1)
    && (r.size_min == 1) && (r.size_max == 48) && (r.resettle == 0) && (length r.totals == 0) && (length r.lunches == 0)

-- the names of the columns of the types
abbrev pub type_columns : List (List ℕ)
type_columns = codes "name" ∷ codes "first_start" ∷ codes "last_start" ∷ codes "shortest" ∷ codes "longest" ∷ codes "rule" ∷ []

-- the name of a type's rule, which is that of the type; none where it has no breaks
abbrev pub rule_name : Kind → List ℕ
rule_name k = if is_plain k.rule then [] else guarded k.name

-- a type: its name, its starts and lengths, and the name of its rule
abbrev pub type_fields : ℕ → Kind → List (List ℕ)
type_fields slot_minutes k =
    guarded k.name
    ∷ slots_text slot_minutes k.start_min
    ∷ slots_text slot_minutes k.start_max
    ∷ slots_text slot_minutes k.len_min
    ∷ slots_text slot_minutes k.len_max
    ∷ rule_name k
    ∷ []

-- the row of a type
abbrev pub type_row : ℕ → Kind → List ℕ
type_row slot_minutes k = row_text default_writer (type_fields slot_minutes k)

-- the table of types: the names of its columns, and a row for each type
abbrev pub types_text : Problem → List ℕ
types_text i = row_text default_writer type_columns ++ flat_map (type_row i.slot_minutes) i.kinds
