-- The steps of a search below some cuts, and the run that they make.
use Rattle.std.specs.Prelude.{◌≡◌, ℕ, ◌+◌, ◌-◌, ◌^◌, ◌<◌, ◌≤◌, ◌⊎◌, ◌&&◌, Bool, true, IsTrue, IsFalse, MatchOption, nat_le, nat_lt, pos, List, Option, Some, None, IfSome, length, replicate, max, slice_get, if◌then◌else◌}
use Rattle.std.specs.Option.{option_map, option_and_then}
use Rattle.shift_instance.specs.declared.Row.{Row}
use Rattle.shift_instance.specs.Problem.{Problem, slots}
use Rattle.shift_instance.specs.Rota.{are_legal_rows}
use Rattle.rota_cost.specs.Costed.{Costing, IsCosted}
use Rattle.head_splits.specs.declared.Class.{Class}
use Rattle.head_splits.specs.declared.Cut.{Cut}
use Rattle.head_splits.specs.declared.Prices.{Prices}
use Rattle.head_splits.specs.Bound.{are_prices, bound_of}
use Rattle.head_splits.specs.Cuts.{low, high}
use Rattle.head_splits.specs.Settled.{is_live_class, is_settled, span}
use Rattle.head_splits.specs.Nodes.{Node}
use Rattle.dual_bound.specs.Proved.{Proving, IsProved}
use Rattle.dual_bound.specs.Settling.{Settling, IsSettledNode}
use Rattle.dual_bound.specs.Fixing.{IsFixing}
use Rattle.dual_bound.specs.declared.settling.Fixing.{Fixing}
use Rattle.dual_bound.specs.declared.settling.Fixing.TheVariants.{Open, Done}
use Rattle.advice.specs.declared.advice.Advice.{Advice}
use Rattle.advice.specs.declared.advice.Splitting.{Splitting}
use Rattle.advisers.specs.Advised.{greedy_advice}
use Rattle.report_grafts.specs.Run.{Run, floor_up_to}
use Rattle.subtree_search.specs.Searching.{Searching, divided, is_open, offered, opening, priced, settled, top, IsNext}

-- the advised plan, where there is one and its rows are legal
abbrev pub lawful_plan : Problem → Option (List Row) → Option (List Row)
lawful_plan i advised = option_and_then (λ rows. if are_legal_rows i rows then Some rows else None) advised

-- a plan that is offered: legal for the instance at its cost
abbrev pub IsOffer : Problem → Option Costing → Type 0
IsOffer i plan = IfSome plan (λ p. (p.instance ≡ i) × IsCosted p)

-- price 0 for each slot and each cut, at scale 1
abbrev pub no_prices : Problem → List Cut → Prices
no_prices i cuts = record { q = 1; slots = replicate (slots i) (pos 0); cuts = replicate (length cuts) 0 }

-- the advised prices where they are a price set for the cuts, and else price 0 everywhere
unfoldable pub lawful_prices : Problem → List Cut → Prices → Prices
lawful_prices i cuts advised = if are_prices i cuts advised then advised else no_prices i cuts

-- what is found to bound some prices for cuts: nothing, where they are no price set
abbrev pub IsBoundFor : Problem → List Cut → Prices → Option Proving → Type 0
IsBoundFor i cuts prices found = MatchOption found (IsFalse (are_prices i cuts prices)) (λ p. (p.instance ≡ i) × (p.cuts ≡ cuts) × (p.prices ≡ prices) × IsProved p)

-- whether a split is one of a node with some cuts: its class is live, and they leave its number open there
abbrev pub is_lawful : Problem → List Cut → Splitting → Bool
is_lawful i cuts s = is_live_class i s.class && nat_le (low cuts s.class) s.m && nat_lt s.m (high i cuts s.class)

-- the advised split, where there is one and it is one of the node
abbrev pub lawful_split : Problem → List Cut → Option Splitting → Option Splitting
lawful_split i cuts advised = option_and_then (λ s. if is_lawful i cuts s then Some s else None) advised

-- A class by whose number a node with some cuts is split: it is live, and the cuts leave the number open. It is the advised split where
-- that is lawful, and else the one that settling the cuts gives.
pub record IsDivision (i : Problem) (cuts : List Cut) (advised : Option Splitting) (class : Class) (m : ℕ) : Type 0 where
  pub live : IsTrue (is_live_class i class)
  pub low : low cuts class ≤ m
  pub high : m < high i cuts class
  pub given : MatchOption (lawful_split i cuts advised) (IsFixing i cuts (Open class m)) (λ s. s ≡ record { class = class; m = m })

-- the settled node with some cuts
pub record IsSettlement (i : Problem) (cuts : List Cut) (node : Settling) : Type 0 where
  pub instance : node.instance ≡ i
  pub below : node.cuts ≡ cuts
  pub settled : IsSettledNode node

-- what is found of a node with some cuts: a split where they leave a number open, and else the settled node
abbrev pub IsClosing : Problem → List Cut → Option Splitting → Fixing → Type 0
IsClosing i cuts advised (Open class m) = IsFalse (is_settled i cuts) × IsDivision i cuts advised class m
IsClosing i cuts advised (Done node) = IsSettlement i cuts node

-- How a step ends with its node n at k, once that is priced. Where the node isn't open, nothing is added. Else it is split where
-- its cuts leave a number open; and where they fix all numbers, the plan that they leave is offered, and the node is settled where it
-- is still open then.
pub data IsClose (i : Problem) (advised : Option Splitting) (k : ℕ) (n : Node) (s : Searching) : Searching → Type 0 where
  by_price : IsFalse (is_open (top s) n) → IsClose i advised k n s s
  by_division : (class : Class) (m : ℕ) → IsTrue (is_open (top s) n) → IsFalse (is_settled i n.cuts) → IsDivision i n.cuts advised class m → IsClose i advised k n s (divided k n class m s)
  by_settling : (node : Settling) → IsTrue (is_open (top s) n) → IsSettlement i n.cuts node → IsClose i advised k n s (settled i k n (offered s node.plan))

-- a node with the bound of prices as its floor, where that is higher
abbrev pub priced_node : Problem → Node → Prices → Node
priced_node i n prices = record n { floor = max n.floor (bound_of i n.cuts prices) }

-- A step by an advice for the node n at k, the open node of least floor, and among those of least number. The advised plan is offered at
-- its cost, where it is legal; the node is priced by the advised prices where they are a price set for its cuts, and else by price 0
-- everywhere; and then it is closed.
pub record IsStepBy (i : Problem) (k : ℕ) (n : Node) (advice : Advice) (s t : Searching) : Type 0 where
  pub next : IsNext s.nodes (top s) k n
  pub plan : Option Costing
  pub advised : option_map (λ p. p.rows) plan ≡ lawful_plan i advice.plan
  pub offer : IsOffer i plan
  pub prices : Prices
  pub given : prices ≡ lawful_prices i n.cuts advice.prices
  pub lawful : IsTrue (are_prices i n.cuts prices)
  pub close : IsClose i advice.split k (priced_node i n prices) (priced i k n prices (offered s plan)) t

-- a step, whatever is advised
pub record IsStep (i : Problem) (s t : Searching) : Type 0 where
  pub number : ℕ
  pub node : Node
  pub advice : Advice
  pub step : IsStepBy i number node advice s t

-- a step by what the greedy adviser of the instance advises for the node
pub record IsGreedyStep (i : Problem) (s t : Searching) : Type 0 where
  pub number : ℕ
  pub node : Node
  pub step : IsStepBy i number node (greedy_advice i node.cuts) s t

-- no node of a search is open
abbrev pub HasNoOpen : Searching → Type 0
HasNoOpen s = (j : ℕ) (m : Node) → slice_get s.nodes j ≡ Some m → IsFalse (is_open (top s) m)

-- why a search ends: no node is open, it took so many steps, or it may be asked to
abbrev pub WhyEnds : ℕ → Bool → Searching → Type 0
WhyEnds budget asks s = HasNoOpen s ⊎ ((s.taken ≡ budget) ⊎ (asks ≡ true))

-- steps one after another, from a search before its first step
pub data AreSteps (i : Problem) (base : List Cut) (limit : ℕ) : Searching → Type 0 where
  none : AreSteps i base limit (opening base limit)
  one_more : (s t : Searching) → AreSteps i base limit s → IsStep i s t → AreSteps i base limit t

-- steps of the greedy adviser one after another
pub data AreGreedySteps (i : Problem) (base : List Cut) (limit : ℕ) : Searching → Type 0 where
  no_step : AreGreedySteps i base limit (opening base limit)
  greedy_step : (s t : Searching) → AreGreedySteps i base limit s → IsGreedyStep i s t → AreGreedySteps i base limit t

-- the run of a search
abbrev pub run_of : Problem → Searching → Run
run_of i s = record { instance = i; base = s.base; limit = s.limit; best = s.best; lines = s.lines; taken = s.taken; floor = floor_up_to (top s) s.nodes }

-- a run of steps, no more than so many
pub record IsSearched (i : Problem) (base : List Cut) (limit budget : ℕ) (r : Run) : Type 0 where
  pub search : Searching
  pub steps : AreSteps i base limit search
  pub run : r ≡ run_of i search
  pub within : r.taken ≤ budget

-- a run of steps of the greedy adviser
pub record IsGreedyRun (i : Problem) (base : List Cut) (limit : ℕ) (r : Run) : Type 0 where
  pub search : Searching
  pub steps : AreGreedySteps i base limit search
  pub run : r ≡ run_of i search

-- the steps after which each search below some cuts is finished
abbrev pub steps_enough : Problem → List Cut → ℕ
steps_enough i base = 2 ^ (span i base + 1) - 1
