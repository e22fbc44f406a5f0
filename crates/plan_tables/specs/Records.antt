-- The tables of a plan as CSV: the rows of the plan, and its slots. What a record is written as is `csv`'s own definition.
use Rattle.std.specs.Prelude.{ℕ, ◌+◌, ◌*◌, ◌/◌, List, [], ◌∷◌, ◌++◌, codes, slice_get}
use Rattle.std.specs.Option.{option_map_or}
use Rattle.std.specs.List.{flat_map}
use Rattle.std.specs.Fmt.{decimal}
use Rattle.csv.specs.Writing.{default_writer, row_text}
use Rattle.break_rules.specs.declared.Break.{Break}
use Rattle.shift_instance.specs.declared.Duty.{Duty}
use Rattle.shift_instance.specs.declared.Row.{Row}
use Rattle.shift_instance.specs.declared.Shift.{Shift}
use Rattle.shift_instance.specs.Problem.{Problem, day_slots, slots, need_at, need_max_at, shift_list, below}
use Rattle.shift_instance.specs.Rota.{cover}
use Rattle.rota_writer.specs.Table.{clock, break_text, day_number, name_of}
use Rattle.table_records.specs.Guarding.{guarded}
use Rattle.plan_tables.specs.Attendance.{on_break, over_at, under_at}
use Rattle.plan_tables.specs.Starting.{by_start}

-- breaks of a shift that starts at a slot, as times with a space between two
abbrev pub breaks_field : Problem → ℕ → List Break → List ℕ
breaks_field i start [] = []
breaks_field i start (b ∷ bs) = break_text i start b ++ flat_map (λ next. codes " " ++ break_text i start next) bs

-- the names of the columns of the table of rows
abbrev pub duty_columns : List (List ℕ)
duty_columns = codes "day" ∷ codes "start" ∷ codes "end" ∷ codes "type" ∷ codes "employees" ∷ codes "breaks" ∷ []

-- the fields of a row of a shift: the day on which its duties start, counted from 1, their start and end, their type, guarded, how many they are, and their breaks
abbrev pub duty_fields : Problem → Shift → Row → List (List ℕ)
duty_fields i x r =
    decimal (day_number i x r.day)
    ∷ clock (x.start * i.slot_minutes)
    ∷ clock ((x.start + x.len) * i.slot_minutes)
    ∷ guarded (name_of i x.kind)
    ∷ decimal r.count
    ∷ breaks_field i x.start r.breaks
    ∷ []

-- the record of a row, and no text where its shift isn't in the shift list
abbrev pub duty_record : Problem → Row → List ℕ
duty_record i r = option_map_or (λ x. row_text default_writer (duty_fields i x.0 r)) (slice_get (shift_list i) r.shift) []

-- the table of rows: the names of its columns, and a record for each row, by the slot in which its duties start
abbrev pub duties_text : Problem → List Row → List ℕ
duties_text i rows = row_text default_writer duty_columns ++ flat_map (duty_record i) (by_start i rows)

-- the names of the columns of the table of slots
abbrev pub slot_columns : List (List ℕ)
slot_columns = codes "day" ∷ codes "time" ∷ codes "need" ∷ codes "need_max" ∷ codes "working" ∷ codes "on_break" ∷ codes "over" ∷ codes "under" ∷ []

-- the fields of a slot: its day, counted from 1, when it begins, the least and the most wanted employees, those that work, those on break, those above the band and
-- those that lack to the need
abbrev pub slot_fields : Problem → List Duty → ℕ → List (List ℕ)
slot_fields i rota t =
    decimal (t / day_slots i + 1)
    ∷ clock (t * i.slot_minutes)
    ∷ decimal (need_at i t)
    ∷ decimal (need_max_at i t)
    ∷ decimal (cover i rota t)
    ∷ decimal (on_break i rota t)
    ∷ decimal (over_at i rota t)
    ∷ decimal (under_at i rota t)
    ∷ []

-- the table of slots: the names of its columns, and a record for each slot of the planning period
abbrev pub cover_text : Problem → List Duty → List ℕ
cover_text i rota = row_text default_writer slot_columns ++ flat_map (λ t. row_text default_writer (slot_fields i rota t)) (below (slots i))
