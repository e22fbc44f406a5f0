-- Cheapest rotas, and duties that may still be added to one. Source: this project's profile.
use Rattle.std.specs.Prelude.{ℕ, ◌<◌, ◌≤◌, List, IsTrue}
use Rattle.shift_instance.specs.declared.Duty.{Duty}
use Rattle.shift_instance.specs.Problem.{Problem}
use Rattle.shift_instance.specs.Rota.{works, heads_on, is_legal_duty, is_legal_rota, cost}

-- a legal rota than which no legal rota is cheaper
pub record IsCheapest (i : Problem) (rota : List Duty) : Type 0 where
  pub legal : IsTrue (is_legal_rota i rota)
  pub least : (other : List Duty) → IsTrue (is_legal_rota i other) → cost i rota ≤ cost i other

-- a legal duty that works in a slot, and of whose shift fewer than the most duties are in a rota on its day
pub record Helps (i : Problem) (rota : List Duty) (t : ℕ) (d : Duty) : Type 0 where
  pub legal : IsTrue (is_legal_duty i d)
  pub at_work : IsTrue (works i d t)
  pub room : heads_on rota d.shift d.day < i.heads
