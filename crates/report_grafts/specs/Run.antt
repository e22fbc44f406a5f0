-- Runs of a search below some cuts, apart from the search whose node has these cuts.
-- Source: branch and bound, after Land and Doig 1960: what lies below one node of the tree is searched without the rest of it.
use Rattle.std.specs.Prelude.{◌≡◌, ℕ, ◌≤◌, ◌<◌, ◌^◌, Bool, true, false, IsTrue, List, [], ◌∷◌, Option, Some, IfSome, min, fold, count_by, ◌==◌, if◌then◌else◌}
use Rattle.std.specs.Option.{option_map_or}
use Rattle.shift_instance.specs.Problem.{Problem}
use Rattle.shift_instance.specs.Rota.{rota_of}
use Rattle.rota_cost.specs.Costed.{Costing, IsCosted}
use Rattle.head_splits.specs.declared.Cut.{Cut}
use Rattle.head_splits.specs.Cuts.{meets}
use Rattle.head_splits.specs.Nodes.{Node, new_node}
use Rattle.certificate.specs.declared.proof_lines.Line.{Line}
use Rattle.certificate.specs.declared.proof_lines.Line.TheVariants.{Split, Priced, Settled}
use Rattle.certificate.specs.Accepted.{nodes_after}

-- A run: the instance; the cuts below which it searched; the cost below which it looked for rotas; the best one that it found; its proof
-- lines, in which node 0 has the run's cuts; how many of them price a node; and the floor of what it left.
pub record Run : Type 0 where
  pub instance : Problem
  pub base : List Cut
  pub limit : ℕ
  pub best : Option Costing
  pub lines : List Line
  pub taken : ℕ
  pub floor : ℕ

-- whether a line splits a node
abbrev pub is_division : Line → Bool
is_division (Split k class m) = true
is_division (Priced k prices) = false
is_division (Settled k) = false

-- whether a line prices a node
abbrev pub is_pricing : Line → Bool
is_pricing (Split k class m) = false
is_pricing (Priced k prices) = true
is_pricing (Settled k) = false

-- how many lines split a node, and how many price one
abbrev pub divisions : List Line → ℕ
divisions lines = count_by is_division lines

abbrev pub pricings : List Line → ℕ
pricings lines = count_by is_pricing lines

-- the least of a number and the floors of the unsplit nodes
abbrev pub floor_up_to : ℕ → List Node → ℕ
floor_up_to most nodes = fold (λ floor n. if n.split then floor else min floor n.floor) most nodes

-- the top of a run: the least of its limit and of what its best rota costs
abbrev pub top : Run → ℕ
top r = option_map_or (λ best. min r.limit best.cost) r.best r.limit

-- the best rota of a run: it is legal for the run's instance at its cost, meets the run's cuts and costs less than the limit
pub record IsBest (r : Run) (best : Costing) : Type 0 where
  pub same : best.instance ≡ r.instance
  pub costed : IsCosted best
  pub meets : IsTrue (meets (rota_of best.rows) r.base)
  pub less : best.cost < r.limit

-- A sound run: its lines are good from its cuts on and no more than 10^9 of them split a node; its best rota is one; and its floor is the least of
-- its top and the floors of the unsplit nodes.
pub record IsSound (r : Run) : Type 0 where
  pub nodes : List Node
  pub good : nodes_after r.instance (new_node r.base ∷ []) r.lines ≡ Some nodes
  pub few : divisions r.lines ≤ 10 ^ 9
  pub best : IfSome r.best (IsBest r)
  pub taken : r.taken ≡ pricings r.lines
  pub floor : r.floor ≡ floor_up_to (top r) nodes

-- whether no node of a run is open: the floor of each unsplit one is at the top
abbrev pub is_finished : Run → Bool
is_finished r = r.floor == top r
