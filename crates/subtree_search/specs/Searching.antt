-- A search below some cuts, which node it takes next, and what its steps add.
-- Source: branch and bound, after Land and Doig 1960; the order of the nodes and of the lines is this project's profile.
use Rattle.std.specs.Prelude.{◌≡◌, ℕ, ◌+◌, ◌<◌, ◌≤◌, ◌⊎◌, Bool, IsTrue, ◌&&◌, not, nat_lt, List, [], ◌∷◌, ◌++◌, Option, Some, None, min, max, slice_get, if◌then◌else◌}
use Rattle.std.specs.Option.{option_map_or}
use Rattle.shift_instance.specs.Problem.{Problem}
use Rattle.shift_instance.specs.Rota.{rota_of}
use Rattle.rota_cost.specs.Costed.{Costing}
use Rattle.head_splits.specs.declared.Class.{Class}
use Rattle.head_splits.specs.declared.Cut.{Cut}
use Rattle.head_splits.specs.declared.Prices.{Prices}
use Rattle.head_splits.specs.Bound.{bound_of}
use Rattle.head_splits.specs.Cuts.{meets}
use Rattle.head_splits.specs.Nodes.{Node, new_node, with_floor, with_split, settled_floor}
use Rattle.certificate.specs.declared.proof_lines.Line.{Line}
use Rattle.certificate.specs.declared.proof_lines.Line.TheVariants.{Split, Priced, Settled}

-- A search: the cuts below which it searches; the cost below which it looks for rotas; its nodes, of which node 0 has these cuts;
-- the best rota that it keeps; its proof lines; and how many of them price a node.
pub record Searching : Type 0 where
  pub base : List Cut
  pub limit : ℕ
  pub nodes : List Node
  pub best : Option Costing
  pub lines : List Line
  pub taken : ℕ

-- a search before its first step
abbrev pub opening : List Cut → ℕ → Searching
opening base limit = record { base = base; limit = limit; nodes = new_node base ∷ []; best = None; lines = []; taken = 0 }

-- its top: the least of its limit and of what its best rota costs
abbrev pub top_of : ℕ → Option Costing → ℕ
top_of limit best = option_map_or (λ b. min limit b.cost) best limit

abbrev pub top : Searching → ℕ
top s = top_of s.limit s.best

-- whether a node is open below a cost: it is unsplit, and its floor is less
abbrev pub is_open : ℕ → Node → Bool
is_open cost n = not n.split && nat_lt n.floor cost

-- the node of least floor, and among those of least number, of the nodes that are open below a cost
pub record IsNext (nodes : List Node) (cost k : ℕ) (n : Node) : Type 0 where
  pub there : slice_get nodes k ≡ Some n
  pub opens : IsTrue (is_open cost n)
  pub least : (j : ℕ) (m : Node) → slice_get nodes j ≡ Some m → IsTrue (is_open cost m) → (n.floor < m.floor) ⊎ ((n.floor ≡ m.floor) × (k ≤ j))

-- a search after a plan was offered to it, which it keeps where the plan meets its cuts and costs less than its top
abbrev pub offered : Searching → Option Costing → Searching
offered s None = s
offered s (Some p) = if meets (rota_of p.rows) s.base && nat_lt p.cost (top s) then record s { best = Some p } else s

-- a search after its node n at k is priced
abbrev pub priced : Problem → ℕ → Node → Prices → Searching → Searching
priced i k n prices s =
    record s { nodes = with_floor s.nodes k n (max n.floor (bound_of i n.cuts prices)); lines = s.lines ++ Priced k prices ∷ []; taken = s.taken + 1 }

-- a search after its node n at k is split by the number of a class
abbrev pub divided : ℕ → Node → Class → ℕ → Searching → Searching
divided k n class m s = record s { nodes = with_split s.nodes k n class m; lines = s.lines ++ Split k class m ∷ [] }

-- a search after its settled node n at k got the floor of its plan, where the node is open
abbrev pub settled : Problem → ℕ → Node → Searching → Searching
settled i k n s =
    if is_open (top s) n then record s { nodes = with_floor s.nodes k n (settled_floor i n.cuts); lines = s.lines ++ Settled k ∷ [] } else s
