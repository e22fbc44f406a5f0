-- Times and spans of time, as people read them.
use Rattle.std.specs.Prelude.{ℕ, ◌+◌, ◌-◌, ◌*◌, ◌/◌, ◌%◌, ◌^◌, List, ◌++◌, codes, min}
use Rattle.std.specs.Fmt.{decimal}
use Rattle.shift_instance.specs.Problem.{Problem, day_slots}
use Rattle.rota_writer.specs.Table.{clock, two_digits}

-- a span of time in minutes, as whole hours and the minutes beyond them: `H:MM`
abbrev pub hours_text : ℕ → List ℕ
hours_text minutes = decimal (minutes / 60) ++ codes ":" ++ two_digits (minutes % 60)

-- how many minutes so many slots have, and at most the greatest number of 64 bits
abbrev pub span_minutes : Problem → ℕ → ℕ
span_minutes i slots = min (slots * i.slot_minutes) (2 ^ 64 - 1)

-- how long so many slots are together
abbrev pub span_text : Problem → ℕ → List ℕ
span_text i slots = hours_text (span_minutes i slots)

-- the day of a slot of the planning period, counted from 1
abbrev pub day_of_slot : Problem → ℕ → ℕ
day_of_slot i t = t / day_slots i + 1

-- when a slot of the planning period begins, as a clock shows it
abbrev pub time_of_slot : Problem → ℕ → List ℕ
time_of_slot i t = clock (t % day_slots i * i.slot_minutes)
