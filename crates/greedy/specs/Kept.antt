-- Values of shifts on days that are kept from round to round.
use Rattle.std.specs.Prelude.{◌≡◌, ℕ, ◌<◌, ℤ, ◌≤ℤ◌, List, [], length, get_or, Option, Some, None, IfSome}
use Rattle.break_rules.specs.Sums.{int_sum_by}
use Rattle.shift_instance.specs.declared.Duty.{Duty}
use Rattle.shift_instance.specs.declared.Shift.{Shift}
use Rattle.shift_instance.specs.Problem.{Problem, below, shift_list, slot_of, slots}
use Rattle.shift_instance.specs.Worth.{price_of}
use Rattle.price_sums.specs.Days.{Priced}
use Rattle.greedy.specs.Greedy.{day_value, marginal_prices}

-- what is known of a shift on a day, if anything, is its value
abbrev pub IsKnown : Problem → List ℤ → ℕ → ℕ → Option ℤ → Type 0
IsKnown i prices s day known = IfSome known (λ v. v ≡ day_value i prices s day)

-- what is known of a shift on the days of the planning period
abbrev pub AreKnown : Problem → List ℤ → ℕ → List (Option ℤ) → Type 0
AreKnown i prices s days = (day : ℕ) → day < i.days → IsKnown i prices s day (get_or days day None)

-- the values of a shift are known on all these days
abbrev pub AreAllKnown : Problem → List ℤ → ℕ → List (Option ℤ) → Type 0
AreAllKnown i prices s days = (day : ℕ) → day < i.days → get_or days day None ≡ Some (day_value i prices s day)

-- what is known of each shift, by its number
pub record KeepsEach (i : Problem) (prices : List ℤ) (known : List (List (Option ℤ))) : Type 0 where
  pub places : length known ≡ length (shift_list i)
  pub each : (s : ℕ) → s < length (shift_list i) → AreKnown i prices s (get_or known s [])

-- no price of a slot is higher than before
abbrev pub AreNoHigher : Problem → List ℤ → List ℤ → Type 0
AreNoHigher i new old = (t : ℕ) → t < slots i → price_of new t ≤ℤ price_of old t

-- the sum of the prices of the slots where a shift's offsets stand on a day
abbrev pub price_total : Problem → Shift → ℕ → List ℤ → ℤ
price_total i shift day prices = int_sum_by (λ o. price_of prices (slot_of i shift day o)) (below shift.len)

-- the marginal prices of a plan, their sums, and what is known of each shift at these prices
pub record AreKept (i : Problem) (rota : List Duty) (prices : List ℤ) (sums : Priced) (known : List (List (Option ℤ))) : Type 0 where
  pub marginal : prices ≡ marginal_prices i rota
  pub instance : sums.instance ≡ i
  pub summed : sums.prices ≡ marginal_prices i rota
  pub each : KeepsEach i sums.prices known
