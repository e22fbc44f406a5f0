-- Rows with their cost.
use Rattle.std.specs.Prelude.{◌≡◌, ℕ, ◌<◌, List, IsTrue}
use Rattle.shift_instance.specs.declared.Row.{Row}
use Rattle.shift_instance.specs.declared.TheConstants.{TOP}
use Rattle.shift_instance.specs.Problem.{Problem}
use Rattle.shift_instance.specs.Rota.{are_legal_rows, cost, rota_of}

-- rows, what is said to be their cost, and the instance of which it is said
pub record Costing : Type 0 where
  pub instance : Problem
  pub rows : List Row
  pub cost : ℕ

-- the rows are legal for the instance, and cost exactly that, which is less than TOP
pub record IsCosted (c : Costing) : Type 0 where
  pub legal : IsTrue (are_legal_rows c.instance c.rows)
  pub exact : c.cost ≡ cost c.instance (rota_of c.rows)
  pub below : c.cost < TOP
