-- Rounds of the subgradient method: their prices with their values, and the best of them.
use Rattle.std.specs.Prelude.{◌≡◌, ℕ, ◌≤◌, ◌<◌, nat_lt, List, if◌then◌else◌}
use Rattle.shift_instance.specs.Problem.{Problem}
use Rattle.head_splits.specs.declared.Cut.{Cut}
use Rattle.head_splits.specs.Bound.{bound_of}
use Rattle.dual_bound.specs.Pricer.{Pricing}
use Rattle.advisers.specs.declared.rounds.Valued.{Valued}
use Rattle.advisers.specs.Subgradient.{prices_in, value_in}

-- what a pricer is at the prices of a round
abbrev pub pricing_in : Problem → List Cut → ℕ → ℕ → Pricing
pricing_in i cuts q round = record { instance = i; cuts = cuts; prices = prices_in i cuts q round }

-- the prices of a pricer, with their value
abbrev pub valued_of : Pricing → Valued
valued_of p = record { prices = p.prices; value = bound_of p.instance p.cuts p.prices }

-- the better of the best prices so far and others: the others where they are worth more
abbrev pub better : Valued → Valued → Valued
better best other = if nat_lt best.value other.value then other else best

-- the prices of a round, with their value
pub record IsRound (i : Problem) (cuts : List Cut) (q round : ℕ) (v : Valued) : Type 0 where
  pub prices : v.prices ≡ prices_in i cuts q round
  pub value : v.value ≡ value_in i cuts q round

-- a round leads all up to another: none of them is worth more, and each one before it is worth less
pub record Leads (value : ℕ → ℕ) (last leader : ℕ) : Type 0 where
  pub within : leader ≤ last
  pub most : (k : ℕ) → k ≤ last → value k ≤ value leader
  pub first : (k : ℕ) → k < leader → value k < value leader

-- what is known in a round: the best prices so far, and that no round before it has reached the goal
pub record IsSearched (i : Problem) (cuts : List Cut) (q goal round : ℕ) (best : Valued) : Type 0 where
  pub leader : ℕ
  pub led : IsRound i cuts q leader best
  pub leads : Leads (value_in i cuts q) round leader
  pub short : (k : ℕ) → k < round → value_in i cuts q k < goal
