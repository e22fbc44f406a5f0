-- How large prices and sums of prices are.
use Rattle.std.specs.Prelude.{◌≡◌, ℕ, ℤ, pos, neg_ℤ, ◌≤ℤ◌, List, length}
use Rattle.shift_instance.specs.Problem.{Problem, slots}
use Rattle.shift_instance.specs.Valid.{IsValid}
use Rattle.shift_instance.specs.Worth.{price_of}

-- a number within a bound, on either side of 0
pub record IsWithin (bound : ℕ) (z : ℤ) : Type 0 where
  pub above : neg_ℤ (pos bound) ≤ℤ z
  pub below : z ≤ℤ pos bound

-- the prices of all slots of a valid instance, none larger than a weight
pub record ArePrices (i : Problem) (prices : List ℤ) : Type 0 where
  pub valid : IsValid i
  pub all_slots : length prices ≡ slots i
  pub small : (t : ℕ) → IsWithin 1000000 (price_of prices t)
