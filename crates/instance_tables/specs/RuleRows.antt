-- The break rules of an instance as a table.
use Rattle.std.specs.Prelude.{ℕ, ◌&&◌, ◌==◌, List, [], ◌∷◌, ◌++◌, codes, if◌then◌else◌}
use Rattle.std.specs.List.{flat_map}
use Rattle.csv.specs.Writing.{default_writer, row_text}
use Rattle.table_records.specs.Guarding.{guarded}
use Rattle.break_rules.specs.declared.Lunch.{Lunch}
use Rattle.break_rules.specs.declared.Rule.{Rule}
use Rattle.shift_instance.specs.Kind.{Kind}
use Rattle.shift_instance.specs.Problem.{Problem}
use Rattle.instance_tables.specs.Times.{slots_text}
use Rattle.instance_tables.specs.Types.{is_plain}

-- a part of a rule, and nothing where it is as if it weren't said
abbrev pub part_text : ℕ → ℕ → ℕ → List ℕ
part_text slot_minutes unsaid slots = if slots == unsaid then [] else slots_text slot_minutes slots

-- how long a break behind long work is; nothing only where no work is long
abbrev pub rest_text : ℕ → Rule → List ℕ
rest_text slot_minutes r = if (r.long_work == 288) && (r.long_rest == 1) then [] else slots_text slot_minutes r.long_rest

-- an entry of break times by length: `LENGTH=BREAKS`
abbrev pub total_text : ℕ → ℕ × ℕ → List ℕ
total_text slot_minutes e = slots_text slot_minutes e.0 ++ (codes "=" ++ slots_text slot_minutes e.1)

-- an entry of lunches by length: `LENGTH=LUNCH@FROM-TO`
abbrev pub lunch_text : ℕ → Lunch → List ℕ
lunch_text slot_minutes e =
    slots_text slot_minutes e.from_len ++ (codes "=" ++ (slots_text slot_minutes e.size ++ (codes "@" ++ (slots_text slot_minutes e.first ++ (codes "-" ++ slots_text slot_minutes e.last)))))

-- entries with a space between two
abbrev pub entries_text : {X : Type 0} → (X → List ℕ) → List X → List ℕ
entries_text f [] = []
entries_text f (e ∷ es) = f e ++ flat_map (λ next. codes " " ++ f next) es

-- the names of the columns of the rules
abbrev pub rule_columns : List (List ℕ)
rule_columns =
    codes "rule" ∷ codes "lead" ∷ codes "tail" ∷ codes "work_min" ∷ codes "work_max" ∷ codes "long_work" ∷ codes "long_rest"
    ∷ codes "size_min" ∷ codes "size_max" ∷ codes "totals" ∷ codes "lunches" ∷ codes "resettle" ∷ []

-- the rule of a type, by the type's name: a part that limits nothing is left out
abbrev pub rule_fields : ℕ → List ℕ → Rule → List (List ℕ)
rule_fields slot_minutes name r =
    guarded name
    ∷ part_text slot_minutes 0 r.lead
    ∷ part_text slot_minutes 0 r.tail
    ∷ part_text slot_minutes 1 r.work_min
    ∷ part_text slot_minutes 288 r.work_max
    ∷ part_text slot_minutes 288 r.long_work
    ∷ rest_text slot_minutes r
    ∷ part_text slot_minutes 1 r.size_min
    ∷ part_text slot_minutes 48 r.size_max
    ∷ entries_text (total_text slot_minutes) r.totals
    ∷ entries_text (lunch_text slot_minutes) r.lunches
    ∷ part_text slot_minutes 0 r.resettle
    ∷ []

-- the row of a type's rule; none where the type has no breaks
unfoldable pub rule_row : ℕ → Kind → List ℕ
rule_row slot_minutes k = if is_plain k.rule then [] else row_text default_writer (rule_fields slot_minutes k.name k.rule)

-- the table of rules: the names of its columns, and a row for each type with breaks
abbrev pub rules_text : Problem → List ℕ
rules_text i = row_text default_writer rule_columns ++ flat_map (rule_row i.slot_minutes) i.kinds
