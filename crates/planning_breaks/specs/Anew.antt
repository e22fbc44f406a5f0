-- A plan with other breaks.
use Rattle.std.specs.Prelude.{◌≡◌, ◌⊎◌, ℕ, ◌≤◌, Bool, true, max, IfSome, IsTrue, List, Option, None, Some}
use Rattle.std.specs.Option.{option_map}
use Rattle.shift_instance.specs.declared.Duty.{Duty}
use Rattle.shift_instance.specs.declared.Row.{Row}
use Rattle.shift_instance.specs.Problem.{Problem}
use Rattle.shift_instance.specs.Rota.{are_legal_rows, cost, is_legal_rota, rota_of}
use Rattle.certificate.specs.declared.Cert.{Cert}
use Rattle.certificate.specs.Accepted.{is_accepted}
use Rattle.break_plans.specs.declared.planning.Anew.{Anew}
use Rattle.break_plans.specs.Anew.{steps_for, ComesOfSearch, HasHeadsOf}
use Rattle.planning_runs.specs.Reports.{with_rows}
use Rattle.planning_runs.specs.declared.plan.JudgedPlan.{JudgedPlan}
use Rattle.planning_breaks.specs.declared.anew.Rebroken.{Rebroken}

-- a certificate with cheaper rows as its plan, where there are some, and else as it is
abbrev pub cert_after : Problem → Cert → Option (List Row) → Cert
cert_after i c None = c
cert_after i c (Some rows) = with_rows i c rows

-- A plan whose breaks were planned anew, with the rows before and what they cost. Its report is accepted, with the proof and the bound of the
-- report before; its rows are legal at the cost told, which is no more than before, and have as many duties of each shift on each day.
pub record IsRebroken (plan : JudgedPlan) (r : Rebroken) : Type 0 where
  pub before : plan.cert.plan ≡ Some (r.cost_before, r.before)
  pub after : ℕ × List Row
  pub now : r.plan.cert.plan ≡ Some after
  pub instance : r.plan.instance ≡ plan.instance
  pub lines : r.plan.cert.lines ≡ plan.cert.lines
  pub bound : r.plan.cert.bound ≡ plan.cert.bound
  pub accepted : IsTrue (is_accepted r.plan.instance r.plan.cert)
  pub legal : IsTrue (are_legal_rows plan.instance after.1)
  pub heads : HasHeadsOf plan.instance r.before (rota_of after.1)
  pub cost : after.0 ≡ cost plan.instance (rota_of after.1)
  pub cheap : after.0 ≤ r.cost_before

-- What a search for cheaper breaks came to, which ended where none can be cheaper, after so many steps, or as it may have been asked to: the report
-- has the rows that it found, and is as it was where it found none, and the floor is the greater one of its own and the report's bound.
pub record IsFound (plan : JudgedPlan) (steps : ℕ) (asks : Bool) (r : Rebroken) : Type 0 where
  pub anew : Anew
  pub searched : ComesOfSearch plan.instance r.before steps anew
  pub ends : (anew.floor ≡ anew.cost) ⊎ ((anew.steps ≡ steps) ⊎ (asks ≡ true))
  pub report : r.plan.cert ≡ cert_after plan.instance plan.cert anew.cheaper
  pub floor : r.floor ≡ max anew.floor plan.cert.bound

-- steps after which each search for cheaper breaks of a plan is finished
abbrev pub AreEnough : JudgedPlan → ℕ → Type 0
AreEnough plan steps = IfSome plan.cert.plan (λ p. steps_for plan.instance p.1 ≤ steps)

-- the plan costs no more than its floor
abbrev pub CostsItsFloor : Rebroken → Type 0
CostsItsFloor r = option_map (λ p. p.0) r.plan.cert.plan ≡ Some r.floor

-- no legal rota with as many duties of each shift on each day as the rows before costs less than the floor
abbrev pub BoundsBreaks : JudgedPlan → Rebroken → Type 0
BoundsBreaks plan r = (rota : List Duty) → IsTrue (is_legal_rota plan.instance rota) → HasHeadsOf plan.instance r.before rota → r.floor ≤ cost plan.instance rota
