-- A worker's decision: the step that it makes of an advice. Source: this project's profile.
use Rattle.std.specs.Prelude.{◌≡◌, ◌↔◌, ⊤, ℕ, ◌≤◌, ◌&&◌, Bool, IsFalse, MatchOption, nat_le, nat_lt, pos, List, Option, None, Some, IfSome, min, max, length, replicate, if◌then◌else◌}
use Rattle.std.specs.Option.{option_map, option_map_or, option_and_then}
use Rattle.shift_instance.specs.declared.Row.{Row}
use Rattle.shift_instance.specs.Problem.{Problem, slots}
use Rattle.shift_instance.specs.Rota.{are_legal_rows}
use Rattle.rota_cost.specs.Costed.{Costing, IsCosted}
use Rattle.head_splits.specs.declared.Cut.{Cut}
use Rattle.head_splits.specs.declared.Prices.{Prices}
use Rattle.head_splits.specs.Bound.{are_prices}
use Rattle.head_splits.specs.Cuts.{low, high}
use Rattle.head_splits.specs.Settled.{is_live_class, is_settled}
use Rattle.dual_bound.specs.Proved.{IsProved}
use Rattle.dual_bound.specs.Fixing.{IsFixing}
use Rattle.dual_bound.specs.declared.settling.Fixing.TheVariants.{Open, Done}
use Rattle.advice.specs.declared.advice.Advice.{Advice}
use Rattle.advice.specs.declared.advice.Splitting.{Splitting}
use Rattle.search_core.specs.declared.step_posts.StepPosts.{StepPosts}
use Rattle.search_core.specs.declared.step_posts.Close.{Close}
use Rattle.search_core.specs.declared.step_posts.Close.TheVariants.{ByPrice, Split as CloseBySplit, Settled as CloseAsSettled}

-- price 0 for each slot and each cut, at scale 1
abbrev pub zero_prices : Problem → ℕ → Prices
zero_prices i cuts = record { q = 1; slots = replicate (slots i) (pos 0); cuts = replicate cuts 0 }

-- the advised prices where they are a price set for the cuts, and else price 0 everywhere
unfoldable pub lawful_prices : Problem → List Cut → Prices → Prices
lawful_prices i cuts advised = if are_prices i cuts advised then advised else zero_prices i (length cuts)

-- the advised plan, where there is one and its rows are legal
abbrev pub lawful_plan : Problem → Option (List Row) → Option (List Row)
lawful_plan i advised = option_and_then (λ rows. if are_legal_rows i rows then Some rows else None) advised

-- the cost that a node's floor has to reach: that of the best rota or, where it is cheaper, that of the plan
abbrev pub cost_to_reach : ℕ → Option Costing → ℕ
cost_to_reach best plan = option_map_or (λ p. min best p.cost) plan best

-- whether a split is one of a node with these cuts: its class is live, and they leave its number open there
abbrev pub is_split : Problem → List Cut → Splitting → Bool
is_split i cuts s = is_live_class i s.class && nat_le (low cuts s.class) s.m && nat_lt s.m (high i cuts s.class)

-- the advised split, where there is one and it is one of the node
abbrev pub lawful_split : Problem → List Cut → Option Splitting → Option Splitting
lawful_split i cuts advised = option_and_then (λ s. if is_split i cuts s then Some s else None) advised

-- a close that isn't by price: a node that isn't settled is split as advised, where that split is lawful, and else as settling the
-- cuts gives; a settled node is closed as settled
abbrev pub IsGivenClose : Problem → List Cut → Option Splitting → Close → Type 0
IsGivenClose i cuts advised ByPrice = ⊤
IsGivenClose i cuts advised (CloseBySplit class m) = MatchOption (lawful_split i cuts advised) (IsFixing i cuts (Open class m)) (λ s. IsFalse (is_settled i cuts) × (s ≡ record { class = class; m = m }))
IsGivenClose i cuts advised (CloseAsSettled node) = IsFixing i cuts (Done node)

-- the step that a worker makes of an advice for a node with these cuts and this floor, where the best rota has this cost
pub record IsDecision (i : Problem) (number : ℕ) (cuts : List Cut) (floor best : ℕ) (advice : Advice) (step : StepPosts) : Type 0 where
  pub node : step.node ≡ number
  -- its prices and its plan are for the instance
  pub priced_for : step.proved.instance ≡ i
  pub planned_for : IfSome step.plan (λ p. p.instance ≡ i)
  -- the bound of the advised prices where they are lawful, and else of price 0 everywhere
  pub for_cuts : step.proved.cuts ≡ cuts
  pub prices : step.proved.prices ≡ lawful_prices i cuts advice.prices
  pub bound : IsProved step.proved
  -- the advised plan where it is legal, with its cost
  pub plan : option_map (λ p. p.rows) step.plan ≡ lawful_plan i advice.plan
  pub cost : IfSome step.plan IsCosted
  -- by its price exactly where the greater of its floor and the bound reaches the cost of the best rota or of the plan
  pub by_price : (step.close ≡ ByPrice) ↔ (cost_to_reach best step.plan ≤ max floor step.proved.bound)
  -- else by the advised split where it is lawful, by a split that settling gives, or as settled
  pub close : IsGivenClose i cuts advice.split step.close
