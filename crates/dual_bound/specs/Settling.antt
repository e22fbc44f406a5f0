-- A settled node with its plan, and what a look at a node finds.
use Rattle.std.specs.Prelude.{◌≡◌, List, Option, IsTrue, IsFalse, MatchOption}
use Rattle.shift_instance.specs.Problem.{Problem}
use Rattle.rota_cost.specs.Costed.{Costing, IsCosted}
use Rattle.head_splits.specs.declared.Cut.{Cut}
use Rattle.head_splits.specs.Settled.{is_settled, is_empty, settled_rows}

-- an instance, the cuts of a node, and what is said to be its plan, none where it is empty
pub record Settling : Type 0 where
  pub instance : Problem
  pub cuts : List Cut
  pub plan : Option Costing

-- the cuts' plan, with its cost
pub record IsPlan (i : Problem) (cuts : List Cut) (c : Costing) : Type 0 where
  pub some : IsFalse (is_empty i cuts)
  pub instance : c.instance ≡ i
  pub rows : c.rows ≡ settled_rows i cuts
  pub costed : IsCosted c

-- the node is settled, and has its plan exactly where it isn't empty
pub record IsSettledNode (n : Settling) : Type 0 where
  pub settled : IsTrue (is_settled n.instance n.cuts)
  pub plan : MatchOption n.plan (IsTrue (is_empty n.instance n.cuts)) (IsPlan n.instance n.cuts)
