-- What an adviser advises. Source: this project's profile.
use Rattle.std.specs.Prelude.{◌≡◌, Bool, ℕ, ℤ, List, Option, Some, None, length, replicate, unwrap_or, if◌then◌else◌}
use Rattle.shift_instance.specs.declared.Row.{Row}
use Rattle.shift_instance.specs.Problem.{Problem}
use Rattle.shift_instance.specs.Rota.{cost, rota_of}
use Rattle.head_splits.specs.declared.Cut.{Cut}
use Rattle.head_splits.specs.declared.Prices.{Prices}
use Rattle.head_splits.specs.Bound.{is_nil}
use Rattle.greedy.specs.Greedy.{greedy_rows}
use Rattle.advice.specs.declared.advice.Advice.{Advice}
use Rattle.advisers.specs.declared.greedy_plan.GreedyPlan.{GreedyPlan}
use Rattle.advisers.specs.Forced.{forced_prices}

-- the plan of rows, and none where there is none
abbrev pub plan_of : List Row → Option (List Row)
plan_of rows = if is_nil rows then None else Some rows

-- the greedy plan of an instance, with its cost
abbrev pub plan_with_cost : Problem → GreedyPlan
plan_with_cost i = record { rows = greedy_rows i; cost = cost i (rota_of (greedy_rows i)) }

-- the plan of an adviser: the one that it keeps or, where it keeps none, the greedy plan of the instance asked about
abbrev pub own_plan : Option GreedyPlan → Problem → GreedyPlan
own_plan kept i = unwrap_or kept (plan_with_cost i)

-- an instance is the adviser's own where its plan is the greedy plan of that instance; each is, where it keeps none
abbrev pub IsOwn : Option GreedyPlan → Problem → Type 0
IsOwn kept i = own_plan kept i ≡ plan_with_cost i

-- what an adviser keeps after it advised a plan: that plan, where it keeps any, and else what it kept
abbrev pub kept_after : Bool → Option GreedyPlan → GreedyPlan → Option GreedyPlan
kept_after keeps kept plan = if keeps then Some (unwrap_or kept plan) else kept

-- the prices of the forced duties at scale 1, with price 0 for each cut
abbrev pub greedy_prices : Problem → List Cut → Prices
greedy_prices i cuts = record { q = 1; slots = forced_prices i cuts; cuts = replicate (length cuts) 0 }

-- these prices with a plan, and no split
abbrev pub advice_with : GreedyPlan → Problem → List Cut → Advice
advice_with kept i cuts = record { prices = greedy_prices i cuts; plan = plan_of kept.rows; split = None }

-- what the greedy adviser of an instance advises for it
abbrev pub greedy_advice : Problem → List Cut → Advice
greedy_advice i cuts = advice_with (plan_with_cost i) i cuts

-- what the adviser of the same prices advises: its scale and its prices of slots, with price 0 for each cut, no plan and no split
abbrev pub fixed_advice : ℕ → List ℤ → List Cut → Advice
fixed_advice q slots cuts = record {
  prices = record { q = q; slots = slots; cuts = replicate (length cuts) 0 };
  plan = None;
  split = None;
}
