-- The table of a rota: one line for each row, for people to read.
use Rattle.std.specs.Prelude.{ℕ, ◌+◌, ◌*◌, ◌/◌, ◌%◌, List, [], ◌∷◌, ◌++◌, codes, slice_get}
use Rattle.std.specs.Option.{option_map_or}
use Rattle.std.specs.List.{flat_map}
use Rattle.std.specs.Fmt.{decimal}
use Rattle.break_rules.specs.declared.Break.{Break}
use Rattle.shift_instance.specs.declared.Shift.{Shift}
use Rattle.shift_instance.specs.declared.Row.{Row}
use Rattle.shift_instance.specs.Problem.{Problem, day_slots, shift_list}

-- the tens and the units of a number below 100
abbrev pub two_digits : ℕ → List ℕ
two_digits n = decimal (n / 10) ++ decimal (n % 10)

-- a time in minutes from the beginning of some day on, as a clock shows it: `HH:MM`
abbrev pub clock : ℕ → List ℕ
clock minutes = two_digits (minutes % 1440 / 60) ++ codes ":" ++ two_digits (minutes % 1440 % 60)

-- a length of slots from a slot on, the slots counted from the beginning of a day: `HH:MM-HH:MM`
abbrev pub period_text : Problem → ℕ → ℕ → List ℕ
period_text i first len = clock (first * i.slot_minutes) ++ codes "-" ++ clock ((first + len) * i.slot_minutes)

-- a break of a shift that starts at a slot
abbrev pub break_text : Problem → ℕ → Break → List ℕ
break_text i start b = period_text i (start + b.start) b.len

-- breaks with commas between them, and `-` where there are none
abbrev pub breaks_text : Problem → ℕ → List Break → List ℕ
breaks_text i start [] = codes "-"
breaks_text i start (b ∷ bs) = break_text i start b ++ flat_map (λ next. codes "," ++ break_text i start next) bs

-- the day on which a shift of a duty on a day starts, counted from 1; after the last day comes the first
abbrev pub day_number : Problem → Shift → ℕ → ℕ
day_number i shift day = (day + shift.start / day_slots i) % i.days + 1

-- the name of a type, by its number
abbrev pub name_of : Problem → ℕ → List ℕ
name_of i kind = option_map_or (λ k. k.name) (slice_get i.kinds kind) []

-- when the duties of a row work, as its line begins: `# day DD HH:MM-HH:MM`
abbrev pub when_text : Problem → Shift → ℕ → List ℕ
when_text i shift day = codes "# day " ++ decimal (day_number i shift day) ++ codes " " ++ period_text i shift.start shift.len

-- how many duties of which type: ` xCOUNT NAME`
abbrev pub crew_text : Problem → Shift → ℕ → List ℕ
crew_text i shift count = codes " x" ++ decimal count ++ codes " " ++ name_of i shift.kind

-- the line of a row of a shift: `# day DD HH:MM-HH:MM xCOUNT NAME BREAKS`, with its line feed
abbrev pub line_of : Problem → Shift → Row → List ℕ
line_of i shift r =
    when_text i shift r.day ++ crew_text i shift r.count ++ codes " " ++ breaks_text i shift.start r.breaks ++ codes "\n"

-- the line of a row, and no line where its shift isn't in the shift list
abbrev pub row_table_line : Problem → Row → List ℕ
row_table_line i r = option_map_or (λ x. line_of i x.0 r) (slice_get (shift_list i) r.shift) []

-- the table of rows
abbrev pub table_text : Problem → List Row → List ℕ
table_text i rows = flat_map (row_table_line i) rows
