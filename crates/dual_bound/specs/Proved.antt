-- A bound with what proves it.
use Rattle.std.specs.Prelude.{◌≡◌, ℕ, List, IsTrue}
use Rattle.shift_instance.specs.Problem.{Problem}
use Rattle.head_splits.specs.declared.Cut.{Cut}
use Rattle.head_splits.specs.declared.Prices.{Prices}
use Rattle.head_splits.specs.Bound.{are_prices, bound_of}

-- the instance, the cuts, the prices, and what is said to be their bound
pub record Proving : Type 0 where
  pub instance : Problem
  pub cuts : List Cut
  pub prices : Prices
  pub bound : ℕ

-- the prices are a price set for the cuts, and the bound is theirs
pub record IsProved (p : Proving) : Type 0 where
  pub passes : IsTrue (are_prices p.instance p.cuts p.prices)
  pub exact : p.bound ≡ bound_of p.instance p.cuts p.prices
