-- The value of a duty that the total takes, and its size.
use Rattle.std.specs.Prelude.{◌≡◌, ℕ, ◌≤◌, ◌<◌, ◌^◌, ℤ, pos, List, IsFalse, slice_index_or}
use Rattle.std.specs.Int.RustNames.{unsigned_abs}
use Rattle.shift_instance.specs.Problem.{Problem}
use Rattle.shift_instance.specs.Rota.{lists_of}
use Rattle.head_splits.specs.declared.Cut.{Cut}
use Rattle.head_splits.specs.declared.Prices.{Prices}
use Rattle.head_splits.specs.Bound.{is_nil, best_value}

-- the greatest reduced value of a duty of a shift on a day, where some list is legal
pub record IsValue (i : Problem) (cuts : List Cut) (prices : Prices) (s day : ℕ) (v : ℤ) : Type 0 where
  pub some : IsFalse (is_nil (lists_of i s))
  pub is : v ≡ best_value i cuts prices s day
  pub small : unsigned_abs v ≤ 2 ^ 74

-- these of the first days of a shift, at the places of the days
pub record AreValues (i : Problem) (cuts : List Cut) (prices : Prices) (s days : ℕ) (values : List ℤ) : Type 0 where
  pub each : (day : ℕ) → day < days → IsValue i cuts prices s day (slice_index_or values day (pos 0))
