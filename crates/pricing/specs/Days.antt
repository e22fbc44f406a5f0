-- What the best duties of a shift earn, day by day, at the prices of slots alone.
use Rattle.std.specs.Prelude.{◌≡◌, ℕ, ◌<◌, ℤ, pos, List, [], length, slice_index_or}
use Rattle.break_rules.specs.declared.Break.{Break}
use Rattle.break_rules.specs.declared.Rule.{Rule}
use Rattle.shift_instance.specs.Problem.{Problem}
use Rattle.shift_instance.specs.Worth.{IsBest}
use Rattle.break_layers.specs.Rests.{IsBestRest}
use Rattle.pricing.specs.Found.{IsLegal, worth_of}

-- what a duty of a shift on a day earns with the best of the legal lists
abbrev pub IsMostOn : Problem → ℕ → ℕ → List ℤ → ℤ → Type 0
IsMostOn i s day prices value = (list : List Break) × IsBest i s day prices [] list value

-- these of the first days, one after another
pub record AreMostByDay (i : Problem) (s : ℕ) (prices : List ℤ) (days : ℕ) (values : List ℤ) : Type 0 where
  pub each : (day : ℕ) → day < days → IsMostOn i s day prices (slice_index_or values day (pos 0))

-- the best list of a day with what it earns, of those of all days
abbrev pub best_at : List (List Break × ℤ) → ℕ → List Break × ℤ
best_at bests day = slice_index_or bests day ([], pos 0)

-- the best lists of the first days, each with what it earns, one after another
pub record AreBestByDay (i : Problem) (s : ℕ) (prices : List ℤ) (days : ℕ) (bests : List (List Break × ℤ)) : Type 0 where
  pub count : length bests ≡ days
  pub each : (day : ℕ) → day < days → IsBest i s day prices [] (best_at bests day).0 (best_at bests day).1

-- the best list for a rule and a length by the sums of prices, with what it earns
abbrev pub IsBestBy : Rule → ℕ → List ℤ → List Break × ℤ → Type 0
IsBestBy rule len sums best =
    IsBestRest (IsLegal (record { rule = rule; len = len; sums = sums })) (worth_of (record { rule = rule; len = len; sums = sums }) []) best.1 best.0
