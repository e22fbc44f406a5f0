-- Sums of slot prices for all days side by side: a list of lanes, each with a sum for each day.
use Rattle.std.specs.Prelude.{◌≡◌, ℕ, ℤ, ◌+◌, ◌*◌, ◌%◌, ◌<◌, ◌≤◌, List, length, map}
use Rattle.std.specs.Int.RustNames.{unsigned_abs}
use Rattle.price_sums.specs.Along.{sum_at, price_in, AreSmallPrices, AreSums, ArePricesOf}
use Rattle.shift_instance.specs.declared.Shift.{Shift}
use Rattle.shift_instance.specs.Problem.{Problem, day_slots, slots}
use Rattle.shift_instance.specs.Worth.{price_of}

-- the sums of one of the days
abbrev pub sums_on : ℕ → List (List ℤ) → List ℤ
sums_on day lanes = map (λ lane. sum_at lane day) lanes

-- on each day of the planning period, the sums of the prices of the slots where a shift's offsets stand
pub record AreSumsByDay (i : Problem) (shift : Shift) (prices : List ℤ) (lanes : List (List ℤ)) : Type 0 where
  pub each : (day : ℕ) → day < i.days → ArePricesOf i shift day prices (sums_on day lanes)
  pub small : (day : ℕ) → day < i.days → AreSums shift.len (sums_on day lanes)

-- an instance and a price for each slot of its planning period
pub record Priced : Type 0 where
  pub instance : Problem
  pub prices : List ℤ

-- how many slots a planning period's sums go on from the first slot of a day: a shift begins before the end of the second day and is no longer than a day
abbrev pub reach : Problem → ℕ
reach i = 3 * day_slots i

-- the sums of the prices of the slots that follow the first slot of a day, round the end of the planning period, all days side by side
pub record AreDaySums (p : Priced) (lanes : List (List ℤ)) : Type 0 where
  pub count : length p.prices ≡ slots p.instance
  pub prices : AreSmallPrices p.prices
  pub many : length lanes ≡ reach p.instance + 1
  pub each : (day : ℕ) → day < p.instance.days → (offset : ℕ) → offset < reach p.instance → price_in (sums_on day lanes) offset ≡ price_of p.prices ((day * day_slots p.instance + offset) % slots p.instance)
  pub sizes : (day : ℕ) → day < p.instance.days → (offset : ℕ) → unsigned_abs (sum_at (sums_on day lanes) offset) ≤ 10000000000 * 65536
