-- Where a duty stands among rows that are in order, and rows with one duty less.
use Rattle.std.specs.Prelude.{◌≡◌, ℕ, ◌-◌, ◌<◌, true, false, nat_lt, List, [], ◌∷◌, slice_get, Some, if◌then◌else◌}
use Rattle.shift_instance.specs.declared.Duty.{Duty}
use Rattle.shift_instance.specs.declared.Row.{Row}
use Rattle.shift_instance.specs.Rota.{same_duty, duty_of, is_before}
use Rattle.shift_instance.specs.AllDuties.{row_of}

-- a row that comes before another
abbrev pub IsBefore : Row → Row → Type 0
IsBefore a b = is_before a b ≡ true

-- the rows below a place come before a duty
abbrev pub AreBefore : List Row → Duty → ℕ → Type 0
AreBefore rows d k = (j : ℕ) (r : Row) → j < k → slice_get rows j ≡ Some r → is_before r (row_of d 1) ≡ true

-- the row at a place, if any, does not come before a duty
abbrev pub IsNotBefore : List Row → Duty → ℕ → Type 0
IsNotBefore rows d k = (r : Row) → slice_get rows k ≡ Some r → is_before r (row_of d 1) ≡ false

-- rows with one duty less: in its row, which goes with its last duty
abbrev pub with_one_less : Duty → List Row → List Row
with_one_less d [] = []
with_one_less d (r ∷ rows) =
    if same_duty (duty_of r) d then (if nat_lt 1 r.count then row_of (duty_of r) (r.count - 1) ∷ rows else rows)
    else r ∷ with_one_less d rows
