-- Upper bounds of the gains of all shifts.
use Rattle.std.specs.Prelude.{◌≡◌, ℕ, ◌<◌, ℤ, pos, ◌≤ℤ◌, List, length, slice_index_or}
use Rattle.shift_instance.specs.declared.Duty.{Duty}
use Rattle.shift_instance.specs.Problem.{Problem, shift_list}
use Rattle.greedy.specs.Greedy.{gain}
use Rattle.greedy.specs.Sizes.{IsWithin}

-- the bound of a shift
abbrev pub bound_at : List ℤ → ℕ → ℤ
bound_at bounds s = slice_index_or bounds s (pos 0)

-- one bound for each shift, which its gain doesn't pass
pub record AreBounds (i : Problem) (rota : List Duty) (bounds : List ℤ) : Type 0 where
  pub all : length bounds ≡ length (shift_list i)
  pub each : (s : ℕ) → s < length (shift_list i) → gain i rota s ≤ℤ bound_at bounds s
  pub small : (s : ℕ) → IsWithin 14114000000 (bound_at bounds s)
