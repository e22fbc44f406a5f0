-- Nodes of a search: what is left below some cuts, and a bound on it. Source: branch and bound, after Land and Doig 1960.
use Rattle.std.specs.Prelude.{ℕ, ◌+◌, ◌≤◌, Bool, false, true, IsTrue, IsFalse, List, [], ◌∷◌, ◌++◌, slice_set, All, Any, if◌then◌else◌}
use Rattle.shift_instance.specs.declared.Duty.{Duty}
use Rattle.shift_instance.specs.Problem.{Problem}
use Rattle.shift_instance.specs.Rota.{cost, is_legal_rota}
use Rattle.head_splits.specs.declared.Class.{Class}
use Rattle.head_splits.specs.declared.Side.{Side}
use Rattle.head_splits.specs.declared.Side.TheVariants.{AtMost, AtLeast}
use Rattle.head_splits.specs.declared.Cut.{Cut}
use Rattle.shift_instance.specs.declared.TheConstants.{TOP}
use Rattle.head_splits.specs.Cuts.{meets}
use Rattle.head_splits.specs.Settled.{is_empty, settled_plan}

-- a node: the cuts from the root to it, a bound on what its rotas cost, and whether it is split
pub record Node : Type 0 where
  pub cuts : List Cut
  pub floor : ℕ
  pub split : Bool

-- the node below some cuts of which nothing is known
abbrev pub new_node : List Cut → Node
new_node cuts = record { cuts = cuts; floor = 0; split = false }

-- the node below another with one more cut
abbrev pub child : Node → Class → Side → ℕ → Node
child n class side m = record { cuts = n.cuts ++ record { class = class; side = side; m = m } ∷ []; floor = n.floor; split = false }

-- the nodes after the node at k gets a floor
abbrev pub with_floor : List Node → ℕ → Node → ℕ → List Node
with_floor nodes k n floor = slice_set nodes k (record n { floor = floor })

-- the nodes after the node at k is split by the number of a class: at most m, or at least m + 1
abbrev pub with_split : List Node → ℕ → Node → Class → ℕ → List Node
with_split nodes k n class m = slice_set nodes k (record n { split = true }) ++ child n class AtMost m ∷ child n class AtLeast (m + 1) ∷ []

-- the floor of a settled node: what its rotas cost, and TOP where no legal rota lies below it
abbrev pub settled_floor : Problem → List Cut → ℕ
settled_floor i cuts = if is_empty i cuts then TOP else cost i (settled_plan i cuts)

-- nodes that are sound below some cuts
pub record AreSound (i : Problem) (base : List Cut) (nodes : List Node) : Type 0 where
  -- every legal rota below the cuts lies below some unsplit node
  pub covered : (rota : List Duty) → IsTrue (is_legal_rota i rota) → IsTrue (meets rota base) → Any (λ n. IsFalse n.split × IsTrue (meets rota n.cuts)) nodes
  -- every legal rota below a node costs at least its floor
  pub floors : All (λ n. (rota : List Duty) → IsTrue (is_legal_rota i rota) → IsTrue (meets rota n.cuts) → n.floor ≤ cost i rota) nodes
