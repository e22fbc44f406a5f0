-- What an adviser keeps, and what it was told.
use Rattle.std.specs.Prelude.{Bool, ℕ, ℤ, ◌+◌, ◌-◌, ◌^◌, min, List, Option, Some, None}
use Rattle.advice.specs.declared.adviser.Told.{Told}
use Rattle.advisers.specs.declared.heard.Heard.{Heard}
use Rattle.advisers.specs.declared.greedy_plan.GreedyPlan.{GreedyPlan}

-- nothing yet
abbrev pub unheard : Heard
unheard = record { told = 0; last = None }

-- one thing more; the number stands still at the last value of a u64
abbrev pub after : Heard → Told → Heard
after h news = record { told = min (h.told + 1) (2 ^ 64 - 1); last = Some news }

-- what an adviser of the same prices was made with, and what it was told
pub record FixedPrices : Type 0 where
  pub q : ℕ
  pub slots : List ℤ
  pub heard : Heard

-- whether an adviser keeps the plan that it first makes, the plan that it keeps, once it keeps one, and what the adviser was told
pub record Planned : Type 0 where
  pub keeps : Bool
  pub kept : Option GreedyPlan
  pub heard : Heard

-- the scale that an adviser of prices at a scale was made with, whether it keeps the plan that it first makes, the plan that it keeps, once it
-- keeps one, and what it was told
pub record Scaled : Type 0 where
  pub q : ℕ
  pub keeps : Bool
  pub kept : Option GreedyPlan
  pub heard : Heard
