-- Times and spans of time in the tables of an instance.
use Rattle.std.specs.Prelude.{ℕ, ◌*◌, ◌/◌, ◌%◌, List, ◌++◌, codes}
use Rattle.std.specs.Fmt.{decimal}

-- minutes as whole hours and the minutes beyond them: `H:MM`
abbrev pub time_text : ℕ → List ℕ
time_text minutes = decimal (minutes / 60) ++ (codes ":" ++ (decimal (minutes % 60 / 10) ++ decimal (minutes % 60 % 10)))

-- so many slots of so many minutes each
abbrev pub slots_text : ℕ → ℕ → List ℕ
slots_text slot_minutes slots = time_text (slots * slot_minutes)
