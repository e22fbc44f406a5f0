-- The values of a shift on all days at slot prices.
use Rattle.std.specs.Prelude.{◌≡◌, ℕ, ◌<◌, ℤ, pos, List, slice_index_or}
use Rattle.shift_instance.specs.Problem.{Problem}
use Rattle.greedy.specs.Greedy.{day_value}

-- the values of a shift on the days of the planning period
abbrev pub AreValuesOf : Problem → List ℤ → ℕ → List ℤ → Type 0
AreValuesOf i prices s values = (day : ℕ) → day < i.days → slice_index_or values day (pos 0) ≡ day_value i prices s day
