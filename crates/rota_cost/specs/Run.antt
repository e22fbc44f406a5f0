-- What is known of the rows before a row where they are without a fault.
use Rattle.std.specs.Prelude.{◌≡◌, ℕ, ◌<◌, ◌⊎◌, List, true}
use Rattle.shift_instance.specs.declared.Row.{Row}
use Rattle.rota_cost.specs.declared.judging.Run.{Run}
use Rattle.rota_cost.specs.RowFaults.{heads_of, is_in_order}

-- a shift and day after another
abbrev pub IsLater : ℕ → ℕ → ℕ → ℕ → Type 0
IsLater s day other_shift other_day = (s < other_shift) ⊎ ((s ≡ other_shift) × (day < other_day))

-- the duties of the last shift and day, and that there are none of later ones
pub record IsRun (before : List Row) (run : Run) : Type 0 where
  pub heads : run.heads ≡ heads_of before run.shift run.day
  pub later : (s day : ℕ) → IsLater run.shift run.day s day → heads_of before s day ≡ 0
  pub order : (r : Row) → is_in_order before r ≡ true → IsLater r.shift r.day run.shift run.day → ⊥
