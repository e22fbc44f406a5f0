-- The rota of a plan as a table: a line for each duty. What a record is written as is `csv`'s own definition.
use Rattle.std.specs.Prelude.{ℕ, List, [], ◌++◌, fold, length, max, replicate, slice_get, String}
use Rattle.std.specs.declared.alloc.Global.{Global}
use Rattle.std.specs.Option.{option_map_or}
use Rattle.std.specs.List.{flat_map}
use Rattle.csv.specs.Writing.{default_writer, row_text}
use Rattle.shift_instance.specs.declared.Duty.{Duty}
use Rattle.shift_instance.specs.declared.Row.{Row}
use Rattle.shift_instance.specs.Problem.{Problem, shift_list}
use Rattle.shift_instance.specs.Rota.{duty_of}
use Rattle.plan_tables.specs.Starting.{by_start}
use Rattle.rota_table.specs.Fields.{duty_fields, rota_columns}

-- the most breaks that the duties of a row have
abbrev pub most_breaks : List Row → ℕ
most_breaks rows = fold (λ most r. max most (length r.breaks)) 0 rows

-- the record of a duty, and no text where its shift isn't in the shift list
abbrev pub duty_record : Problem → List (String Global) → ℕ → Duty → List ℕ
duty_record i names most d = option_map_or (λ x. row_text default_writer (duty_fields i names most x.0 d)) (slice_get (shift_list i) d.shift) []

-- the records of the duties of a row, as many as there are
abbrev pub row_records : Problem → List (String Global) → ℕ → Row → List ℕ
row_records i names most r = flat_map (duty_record i names most) (replicate r.count (duty_of r))

-- the rota of rows, with the names that the days have: the names of its columns, and a record for each duty, row by row by the slot in which they start
abbrev pub rota_text : Problem → List (String Global) → List Row → List ℕ
rota_text i names rows =
    row_text default_writer (rota_columns (most_breaks rows)) ++ flat_map (row_records i names (most_breaks rows)) (by_start i rows)
