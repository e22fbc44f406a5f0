-- The rows of a plan, as lines of text.
use Rattle.std.specs.Prelude.{ℕ, List, [], ◌∷◌, ◌++◌, codes, fold, length, max, slice_get}
use Rattle.std.specs.Option.{option_map_or}
use Rattle.std.specs.List.{flat_map}
use Rattle.std.specs.Fmt.{decimal}
use Rattle.break_rules.specs.declared.Break.{Break}
use Rattle.shift_instance.specs.declared.Row.{Row}
use Rattle.shift_instance.specs.declared.Shift.{Shift}
use Rattle.shift_instance.specs.Problem.{Problem, shift_list}
use Rattle.rota_writer.specs.Table.{day_number, name_of, period_text}
use Rattle.plan_tables.specs.Columns.{at_left, at_right}
use Rattle.plan_tables.specs.Records.{breaks_field}
use Rattle.plan_tables.specs.Starting.{by_start}

-- how many bytes the longest name of a type has
abbrev pub longest_name : Problem → ℕ
longest_name i = fold (λ most kind. max most (length kind.name)) 0 i.kinds

-- the times of breaks with a space between two, and `-` where there are none
abbrev pub breaks_or_dash : Problem → ℕ → List Break → List ℕ
breaks_or_dash i start [] = codes "-"
breaks_or_dash i start (b ∷ bs) = breaks_field i start (b ∷ bs)

-- what the columns are before that of the types, and from that on, which is so many bytes wide
unfoldable pub first_columns : List ℕ
first_columns = codes "day  time         employees  "

unfoldable pub last_columns : ℕ → List ℕ
last_columns width = at_left width (codes "type") ++ codes "  breaks\n"

-- the line of what the columns are
unfoldable pub duties_head : Problem → List ℕ
duties_head i = first_columns ++ last_columns (longest_name i)

-- a row of a shift: the day on which its duties start, counted from 1, their time, how many they are, their type and their breaks
unfoldable pub duty_line : Problem → Shift → Row → List ℕ
duty_line i x r =
    at_right 3 (decimal (day_number i x r.day)) ++ codes "  " ++ period_text i x.start x.len ++ at_right 11 (decimal r.count) ++ codes "  "
    ++ at_left (longest_name i) (name_of i x.kind) ++ codes "  " ++ breaks_or_dash i x.start r.breaks ++ codes "\n"

-- the line of a row, and no line where its shift isn't in the shift list
abbrev pub row_line : Problem → Row → List ℕ
row_line i r = option_map_or (λ x. duty_line i x.0 r) (slice_get (shift_list i) r.shift) []

-- the line of what the columns are, and a line for each row, by the slot in which its duties start
abbrev pub duties_lines : Problem → List Row → List ℕ
duties_lines i rows = duties_head i ++ flat_map (row_line i) (by_start i rows)
