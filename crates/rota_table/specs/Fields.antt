-- The fields of a duty, and the names of their columns.
use Rattle.std.specs.Prelude.{ℕ, ◌+◌, ◌-◌, ◌*◌, ◌%◌, Bool, nat_le, List, [], ◌∷◌, ◌++◌, codes, fold, length, if◌then◌else◌, slice_get, String, string_bytes}
use Rattle.std.specs.List.{flat_map}
use Rattle.std.specs.Option.{option_map_or}
use Rattle.std.specs.declared.alloc.Global.{Global}
use Rattle.std.specs.Fmt.{decimal}
use Rattle.break_rules.specs.declared.Break.{Break}
use Rattle.shift_instance.specs.declared.Duty.{Duty}
use Rattle.shift_instance.specs.declared.Shift.{Shift}
use Rattle.shift_instance.specs.Problem.{Problem, below, day_slots}
use Rattle.rota_writer.specs.Table.{clock, day_number, name_of}
use Rattle.table_records.specs.Guarding.{guarded}
use Rattle.plan_tables.specs.Times.{span_text}

-- the names of the columns of a break, by its number from 0 on: `break_K_start` and `break_K_end`, K counted from 1
abbrev pub break_columns : ℕ → List (List ℕ)
break_columns k = (codes "break_" ++ (decimal (k + 1) ++ codes "_start")) ∷ (codes "break_" ++ (decimal (k + 1) ++ codes "_end")) ∷ []

-- the names of the columns before those of the breaks
abbrev pub first_columns : List (List ℕ)
first_columns = codes "day" ∷ codes "day_name" ∷ codes "start" ∷ codes "end" ∷ codes "next_day" ∷ codes "type" ∷ codes "paid" ∷ codes "worked" ∷ []

-- the names of all columns, for so many breaks
abbrev pub rota_columns : ℕ → List (List ℕ)
rota_columns most = first_columns ++ flat_map break_columns (below most)

-- the name of a day by its number, counted from 1, guarded, and nothing where the day has no name
abbrev pub day_name : List (String Global) → ℕ → List ℕ
day_name names number = option_map_or (λ name. guarded (string_bytes name)) (slice_get names (number - 1)) []

-- whether a shift ends at midnight or on the day after that on which it starts
abbrev pub ends_next_day : Problem → Shift → Bool
ends_next_day i x = nat_le (day_slots i) (x.start % day_slots i + x.len)

-- the slots of a shift without its breaks
abbrev pub worked_slots : ℕ → List Break → ℕ
worked_slots len breaks = fold (λ left b. left - b.len) len breaks

-- the fields before those of the breaks: the day on which the duty starts, counted from 1, and that day's name, its start and end, whether that is on the next day, its type, guarded, how long it is with its breaks and without them
abbrev pub first_fields : Problem → List (String Global) → Shift → Duty → List (List ℕ)
first_fields i names x d =
    decimal (day_number i x d.day)
    ∷ day_name names (day_number i x d.day)
    ∷ clock (x.start * i.slot_minutes)
    ∷ clock ((x.start + x.len) * i.slot_minutes)
    ∷ (if ends_next_day i x then codes "yes" else codes "no")
    ∷ guarded (name_of i x.kind)
    ∷ span_text i x.len
    ∷ span_text i (worked_slots x.len d.breaks)
    ∷ []

-- a break of a shift that starts at a slot: its beginning and its end
abbrev pub break_fields : Problem → ℕ → Break → List (List ℕ)
break_fields i start b = clock ((start + b.start) * i.slot_minutes) ∷ clock ((start + b.start + b.len) * i.slot_minutes) ∷ []

-- the empty fields in the columns of a break that a duty lacks
abbrev pub lacking_fields : ℕ → List (List ℕ)
lacking_fields k = [] ∷ [] ∷ []

-- the fields of a duty: its breaks from the first, and nothing in the columns of further ones
abbrev pub duty_fields : Problem → List (String Global) → ℕ → Shift → Duty → List (List ℕ)
duty_fields i names most x d =
    first_fields i names x d ++ flat_map (break_fields i x.start) d.breaks ++ flat_map lacking_fields (below (most - length d.breaks))
