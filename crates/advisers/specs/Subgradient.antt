-- Prices by the subgradient method, and what its adviser advises. Source: Held, Wolfe and Crowder 1974 for the method; the first prices, the steps
-- and the number of rounds are this project's profile.
use Rattle.std.specs.Prelude.{ℕ, zero, suc, ◌+◌, ◌-◌, ◌*◌, ◌/◌, ℤ, pos, neg_ℤ, ◌+ℤ◌, ◌-ℤ◌, ◌*ℤ◌, not, nat_lt, nat_le, min, max, List, map, length, replicate, None, unwrap_or, if◌then◌else◌}
use Rattle.std.specs.Int.{int_max, int_min, is_negative, is_positive}
use Rattle.std.specs.Option.{option_map_or}
use Rattle.std.specs.List.{list_any, find, zip}
use Rattle.shift_instance.specs.declared.Duty.{Duty}
use Rattle.shift_instance.specs.Problem.{Problem, slots, need_at, need_max_at, below}
use Rattle.shift_instance.specs.Rota.{cover}
use Rattle.shift_instance.specs.Worth.{price_of}
use Rattle.head_splits.specs.declared.TheConstants.{CUT_PRICE_MAX}
use Rattle.head_splits.specs.declared.Side.{Side}
use Rattle.head_splits.specs.declared.Side.TheVariants.{AtMost, AtLeast}
use Rattle.head_splits.specs.declared.Cut.{Cut}
use Rattle.head_splits.specs.declared.Prices.{Prices}
use Rattle.head_splits.specs.Cuts.{class_count}
use Rattle.head_splits.specs.Bound.{bound_of, is_nil}
use Rattle.advice.specs.declared.advice.Advice.{Advice}
use Rattle.advice.specs.declared.advice.Ask.{Ask}
use Rattle.advisers.specs.declared.greedy_plan.GreedyPlan.{GreedyPlan}
use Rattle.advisers.specs.Advised.{plan_with_cost, plan_of}
use Rattle.advisers.specs.Forced.{forced_prices}
use Rattle.advisers.specs.Solutions.{solution}

-- the step size of a round at a scale: the scale shared among the rounds so far, and at least 1
abbrev pub step_in : ℕ → ℕ → ℕ
step_in q round = max 1 (q / (round + 1))

-- a number brought into a range
abbrev pub brought_into : ℤ → ℤ → ℤ → ℤ
brought_into least most z = int_max least (int_min z most)

-- the number of a slot's band that its price moves towards where that many duties work: the need for a price above 0, the most wanted employees for one
-- below 0, and for price 0 the number that is nearest to how many work
abbrev pub target_at : Problem → ℕ → ℤ → ℕ → ℕ
target_at i t price working =
    if is_positive price then need_at i t
    else if is_negative price then need_max_at i t
    else min (max working (need_at i t)) (need_max_at i t)

-- the next price of a slot: it grows by the step size for each employee too few that the solution leaves, falls by it for each one too many, and is
-- brought into its range
abbrev pub next_slot_price : Problem → ℕ → ℕ → List Duty → ℕ → ℤ → ℤ
next_slot_price i q step rota t price =
    brought_into (neg_ℤ (pos (q * i.excess))) (pos (q * i.shortage)) (price +ℤ pos step *ℤ (pos (target_at i t price (cover i rota t)) -ℤ pos (cover i rota t)))

-- a price that grows by the step size for each duty by which the solution departs from a cut, and falls by it for each one in the other direction, but not
-- below 0
abbrev pub stepped : Side → ℕ → ℕ → ℕ → ℕ → ℕ
stepped AtLeast step m count price = (price + step * m) - step * count
stepped AtMost step m count price = (price + step * count) - step * m

-- the next price of a cut, which is brought into its range; that of a cut on all duties of a shift on a day stays
abbrev pub next_cut_price : ℕ → List Duty → Cut × ℕ → ℕ
next_cut_price step rota c =
    if is_nil c.0.class.prefix then c.1
    else min CUT_PRICE_MAX (stepped c.0.side step c.0.m (class_count rota c.0.class) c.1)

-- the prices changed by a step size
unfoldable pub next_prices : Problem → List Cut → ℕ → Prices → Prices
next_prices i cuts step prices = record {
  q = prices.q;
  slots = map (λ t. next_slot_price i prices.q step (solution i cuts prices) t (price_of prices.slots t)) (below (slots i));
  cuts = map (next_cut_price step (solution i cuts prices)) (zip cuts prices.cuts);
}

-- the first prices: those of the forced duties times the scale, and price 0 for each cut
unfoldable pub first_prices : Problem → List Cut → ℕ → Prices
first_prices i cuts q = record { q = q; slots = map (λ p. p *ℤ pos q) (forced_prices i cuts); cuts = replicate (length cuts) 0 }

-- the prices of each round
unfoldable pub prices_in : Problem → List Cut → ℕ → ℕ → Prices
prices_in i cuts q zero = first_prices i cuts q
prices_in i cuts q (suc round) = next_prices i cuts (step_in q round) (prices_in i cuts q round)

-- the value of a round's prices: the bound that they give
abbrev pub value_in : Problem → List Cut → ℕ → ℕ → ℕ
value_in i cuts q round = bound_of i cuts (prices_in i cuts q round)

-- how many rounds are made of at most so many: up to the first whose value reaches the goal
unfoldable pub rounds_made : (ℕ → ℕ) → ℕ → ℕ → ℕ
rounds_made value goal most = option_map_or (λ round. round + 1) (find (λ round. nat_le goal (value round)) (below most)) most

-- the round of greatest value among the first so many, the earliest among equals
unfoldable pub greatest_round : (ℕ → ℕ) → ℕ → ℕ
greatest_round value many = unwrap_or (find (λ round. not (list_any (λ other. nat_lt (value round) (value other)) (below many))) (below many)) 0

-- the value at which no more is wanted: what the best rota costs or, where it is less, a plan that has a duty
abbrev pub goal_of : ℕ → GreedyPlan → ℕ
goal_of best kept = if is_nil kept.rows then best else min best kept.cost

-- the prices of greatest value of at most so many rounds
unfoldable pub best_prices : Problem → List Cut → ℕ → ℕ → ℕ → Prices
best_prices i cuts q goal most = prices_in i cuts q (greatest_round (value_in i cuts q) (rounds_made (value_in i cuts q) goal most))

-- what the subgradient adviser of a scale and of a plan advises: the prices of greatest value of at most 40 rounds, the plan, and no split
abbrev pub subgradient_advice_with : GreedyPlan → Problem → ℕ → Ask → Advice
subgradient_advice_with kept i q ask = record {
  prices = best_prices i ask.cuts q (goal_of ask.best kept) 40;
  plan = plan_of kept.rows;
  split = None;
}

-- what the subgradient adviser of an instance advises for it
abbrev pub subgradient_advice : Problem → ℕ → Ask → Advice
subgradient_advice i q ask = subgradient_advice_with (plan_with_cost i) i q ask
