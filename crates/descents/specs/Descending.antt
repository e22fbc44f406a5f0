-- Plans that no move makes cheaper. Source: descent by moves is the local search of Musliu, Schaerf and Slany 2004, without its lists of forbidden moves.
use Rattle.std.specs.Prelude.{◌≡◌, ◌⊎◌, ℕ, ◌+◌, ◌*◌, ◌/◌, ◌%◌, ◌<◌, ◌≤◌, Bool, IsTrue, List, [], length, MatchOption, Option, slice_get, Some, None, unwrap_or, if◌then◌else◌}
use Rattle.break_rules.specs.declared.Break.{Break}
use Rattle.break_rules.specs.Causes.{first_cause}
use Rattle.shift_instance.specs.declared.Duty.{Duty}
use Rattle.shift_instance.specs.declared.Row.{Row}
use Rattle.shift_instance.specs.Problem.{Problem, shift_list}
use Rattle.shift_instance.specs.Rota.{are_legal_rows, cost, duty_of, rota_of}
use Rattle.greedy.specs.Greedy.{greedy_rows}
use Rattle.advice.specs.declared.advice.Advice.{Advice}
use Rattle.advisers.specs.declared.heard.Heard.{Heard}
use Rattle.descents.specs.declared.descending.Part.{Part}
use Rattle.descents.specs.declared.descending.Part.TheVariants.{Rows, Shifts, Days}
use Rattle.local_moves.specs.declared.moves.Move.{Move}
use Rattle.local_moves.specs.declared.moves.Move.TheVariants.{Add, Drop, Rebreak, Reshift}
use Rattle.local_moves.specs.Moves.{move_causes, moved}

-- where a move isn't refused it doesn't lower the plan's cost
abbrev pub IsNoGain : Problem → List Duty → Move → Type 0
IsNoGain i rota m = first_cause (move_causes i rota m) ≡ None → cost i rota ≤ cost i (moved i m rota)

-- no move lowers the plan's cost
abbrev pub IsLocalOptimum : Problem → List Duty → Type 0
IsLocalOptimum i rota = (m : Move) → IsNoGain i rota m

-- nor does it lower the cost that a duty goes or gets other breaks
abbrev pub IsDutyOptimal : Problem → List Duty → Duty → Type 0
IsDutyOptimal i rota d = IsNoGain i rota (Drop d.shift d.day d.breaks) × ((list : List Break) → IsNoGain i rota (Rebreak d.shift d.day d.breaks list))

-- the list with which a duty of a plan costs least in place of its own, and what the plan costs with it
pub record IsBestRebreak (i : Problem) (rota : List Duty) (d : Duty) (list : List Break) (n : ℕ) : Type 0 where
  pub accepted : first_cause (move_causes i rota (Rebreak d.shift d.day d.breaks list)) ≡ None
  pub exact : n ≡ cost i (moved i (Rebreak d.shift d.day d.breaks list) rota)
  pub least : (other : List Break) → first_cause (move_causes i rota (Rebreak d.shift d.day d.breaks other)) ≡ None → n ≤ cost i (moved i (Rebreak d.shift d.day d.breaks other) rota)

-- how many places a part has: one for each row, for each two shifts, or for each shift and day
abbrev pub places : Problem → List Row → Part → ℕ
places i rows Rows = length rows
places i rows Shifts = length (shift_list i) * length (shift_list i)
places i rows Days = length (shift_list i) * i.days

-- whether there is such a place; a row may be gone meanwhile
abbrev pub IsPlace : Problem → Part → ℕ → Type 0
IsPlace i Rows k = Unit {0}
IsPlace i Shifts k = k < length (shift_list i) * length (shift_list i)
IsPlace i Days k = k < length (shift_list i) * i.days

-- no move in a place lowers the plan's cost
abbrev pub IsOptimalAt : Problem → List Row → Part → ℕ → Type 0
IsOptimalAt i rows Rows k = (r : Row) → slice_get rows k ≡ Some r → IsDutyOptimal i (rota_of rows) (duty_of r)
IsOptimalAt i rows Shifts k = IsNoGain i (rota_of rows) (Reshift (k / length (shift_list i)) (k % length (shift_list i)))
IsOptimalAt i rows Days k = (list : List Break) → IsNoGain i (rota_of rows) (Add (k / i.days) (k % i.days) list)

-- what a descent of at most so many moves from the greedy plan ends with: a legal plan that costs no more, and that no move makes
-- cheaper or that costs at least so much less
pub record IsDescent (i : Problem) (rounds : ℕ) (rows : List Row) : Type 0 where
  pub legal : IsTrue (are_legal_rows i rows)
  pub cheaper : cost i (rota_of rows) ≤ cost i (rota_of (greedy_rows i))
  pub optimum : ∥ IsLocalOptimum i (rota_of rows) ⊎ (cost i (rota_of rows) + rounds ≤ cost i (rota_of (greedy_rows i))) ∥₁

-- the most moves that an adviser of descents takes, whether it keeps the plan that it first makes, the rows of the plan that it keeps, once it
-- keeps one, and what it was told
pub record Descending : Type 0 where
  pub rounds : ℕ
  pub keeps : Bool
  pub kept : Option (List Row)
  pub heard : Heard

-- the rows of the plan of an adviser: those that it keeps or, where it keeps none, those of a descent in the instance asked about
abbrev pub IsOwnPlan : Problem → Descending → List Row → Type 0
IsOwnPlan i d rows = MatchOption d.kept (IsDescent i d.rounds rows) (λ kept. rows ≡ kept)

-- the rows of an advised plan, and none where no plan is advised
abbrev pub advised_rows : Advice → List Row
advised_rows advice = unwrap_or advice.plan []

-- what an adviser keeps after it gave the rows of its plan: these, where it keeps any, and else what it kept
abbrev pub kept_after : Descending → List Row → Option (List Row)
kept_after d rows = if d.keeps then Some rows else d.kept
