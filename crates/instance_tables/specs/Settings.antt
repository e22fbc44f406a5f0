-- The settings and the needs of an instance as tables. What a record is written as is `csv`'s own definition.
use Rattle.std.specs.Prelude.{ℕ, ◌+◌, ◌/◌, ◌%◌, ◌==◌, List, [], ◌∷◌, ◌++◌, codes, if◌then◌else◌}
use Rattle.std.specs.List.{flat_map}
use Rattle.std.specs.Fmt.{decimal}
use Rattle.csv.specs.Writing.{default_writer, row_text}
use Rattle.shift_instance.specs.Problem.{Problem, below, day_slots, need_at, need_max_at, slots}
use Rattle.instance_tables.specs.Times.{slots_text}

-- the names of the columns of the settings
abbrev pub settings_columns : List (List ℕ)
settings_columns = codes "slot_minutes" ∷ codes "days" ∷ codes "excess" ∷ codes "shortage" ∷ codes "shift" ∷ codes "max_heads" ∷ []

-- the settings of an instance
abbrev pub settings_fields : Problem → List (List ℕ)
settings_fields i = decimal i.slot_minutes ∷ decimal i.days ∷ decimal i.excess ∷ decimal i.shortage ∷ decimal i.shift ∷ decimal i.heads ∷ []

-- the table of settings: the names of its columns, and one row
abbrev pub settings_text : Problem → List ℕ
settings_text i = row_text default_writer settings_columns ++ row_text default_writer (settings_fields i)

-- the names of the columns of the needs
abbrev pub need_columns : List (List ℕ)
need_columns = codes "day" ∷ codes "time" ∷ codes "need" ∷ codes "need_max" ∷ []

-- the most employees that are wanted, and nothing where they are the least
abbrev pub need_max_text : ℕ → ℕ → List ℕ
need_max_text need most = if most == need then [] else decimal most

-- a slot of the planning period: its day, counted from 1, when it begins, and the employees that are wanted, at least and at most
abbrev pub need_fields : Problem → ℕ → List (List ℕ)
need_fields i t = decimal (t / day_slots i + 1) ∷ slots_text i.slot_minutes (t % day_slots i) ∷ decimal (need_at i t) ∷ need_max_text (need_at i t) (need_max_at i t) ∷ []

-- the table of needs: the names of its columns, and a row for each slot
abbrev pub need_text : Problem → List ℕ
need_text i = row_text default_writer need_columns ++ flat_map (λ t. row_text default_writer (need_fields i t)) (below (slots i))
