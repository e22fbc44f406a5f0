-- A plan with cheaper rows, or as it was, is one whose breaks were planned anew.
use Rattle.std.proofs.Common.{◌≡◌, ◌⊎◌, inl, inr, ℕ, ◌<◌, ◌≤◌, ◌==◌, Bool, true, List, refl, sym, ap, ◌∙◌, subst, arith, max, Option, None, Some}
use Rattle.std.specs.Prelude.{IfSome, IsTrue}
use Rattle.std.specs.Option.{option_map}
use Rattle.std.proofs.lemmas.Bool.{and_parts, eqb-true}
use Rattle.shift_instance.specs.declared.Duty.{Duty}
use Rattle.shift_instance.specs.declared.Row.{Row}
use Rattle.shift_instance.specs.Problem.{Problem}
use Rattle.shift_instance.specs.Rota.{are_legal_rows, cost, is_legal_rota, rota_of}
use Rattle.rota_cost.proofs.Counting.{legal_rows_parts}
use Rattle.certificate.specs.declared.Cert.{Cert}
use Rattle.certificate.specs.Accepted.{is_accepted, is_bound, is_plan}
use Rattle.certificate.proofs.Acceptance.{bounds}
use Rattle.break_plans.specs.Anew.{rows_after, steps_for, HasHeadsOf, IsCheaper}
use Rattle.planning_runs.specs.declared.plan.JudgedPlan.{JudgedPlan}
use Rattle.planning_breaks.specs.declared.anew.Rebroken.{Rebroken}
use Rattle.planning_breaks.specs.Anew.{cert_after, AreEnough, BoundsBreaks, CostsItsFloor, IsRebroken}

-- what an accepted certificate claims of its rows is so
plan_parts : (i : Problem) (c : Cert) (paid : ℕ) (rows : List Row) → IsTrue (is_accepted i c) → c.plan ≡ Some (paid, rows) → IsTrue (are_legal_rows i rows) × (cost i (rota_of rows) ≡ paid)
plan_parts i c paid rows accepted is =
    let both = and_parts (is_bound i c.lines c.bound) (is_plan i c.plan) accepted in
    let parts = and_parts (are_legal_rows i rows) (cost i (rota_of rows) == paid) (subst (λ (p : Option (ℕ × List Row)). IsTrue (is_plan i p)) is both.1) in
    (parts.0, eqb-true (cost i (rota_of rows)) paid parts.1)

-- the plan as it was
as_before : (plan : JudgedPlan) (r : Rebroken) → plan.cert.plan ≡ Some (r.cost_before, r.before) → r.plan.instance ≡ plan.instance → r.plan.cert ≡ plan.cert
    → IsTrue (is_accepted plan.instance plan.cert) → IsTrue (is_accepted r.plan.instance r.plan.cert) → IsRebroken plan r
as_before plan r is same cert old accepted =
    let parts = plan_parts plan.instance plan.cert r.cost_before r.before old is in
    let same_cost : r.cost_before ≤ r.cost_before = omega arith in
    record {
      before = is;
      after = (r.cost_before, r.before);
      now = ap (λ (c : Cert). c.plan) cert ∙ is;
      instance = same;
      lines = ap (λ (c : Cert). c.lines) cert;
      bound = ap (λ (c : Cert). c.bound) cert;
      accepted = accepted;
      legal = parts.0;
      heads = λ s day there some within. refl;
      cost = sym parts.1;
      cheap = same_cost;
    }

-- cheaper rows
with_new : (plan : JudgedPlan) (r : Rebroken) (rows : List Row) → plan.cert.plan ≡ Some (r.cost_before, r.before) → r.plan.instance ≡ plan.instance → r.plan.cert ≡ cert_after plan.instance plan.cert (Some rows)
    → IsTrue (is_accepted plan.instance plan.cert) → IsTrue (is_accepted r.plan.instance r.plan.cert) → IsCheaper plan.instance r.before rows → IsRebroken plan r
with_new plan r rows is same cert old accepted cheaper =
    let parts = plan_parts plan.instance plan.cert r.cost_before r.before old is in
    let before : cost plan.instance (rota_of r.before) ≡ r.cost_before = parts.1 in
    let less : cost plan.instance (rota_of rows) < cost plan.instance (rota_of r.before) = cheaper.less in
    let most : cost plan.instance (rota_of rows) ≤ r.cost_before = omega (arith, before, less) in
    record {
      before = is;
      after = (cost plan.instance (rota_of rows), rows);
      now = ap (λ (c : Cert). c.plan) cert;
      instance = same;
      lines = ap (λ (c : Cert). c.lines) cert;
      bound = ap (λ (c : Cert). c.bound) cert;
      accepted = accepted;
      legal = cheaper.legal;
      heads = cheaper.heads;
      cost = refl;
      cheap = most;
    }

pub rebroken : (plan : JudgedPlan) (r : Rebroken) (cheaper : Option (List Row)) → plan.cert.plan ≡ Some (r.cost_before, r.before) → r.plan.instance ≡ plan.instance → r.plan.cert ≡ cert_after plan.instance plan.cert cheaper
    → IsTrue (is_accepted plan.instance plan.cert) → IsTrue (is_accepted r.plan.instance r.plan.cert) → IfSome cheaper (IsCheaper plan.instance r.before) → IsRebroken plan r
rebroken plan r None is same cert old accepted cheaper = as_before plan r is same cert old accepted
rebroken plan r (Some rows) is same cert old accepted cheaper = with_new plan r rows is same cert old accepted cheaper

-- both bounds hold
pub bounded : (plan : JudgedPlan) (r : Rebroken) (floor : ℕ) → IsTrue (is_accepted plan.instance plan.cert) → r.floor ≡ max floor plan.cert.bound
    → ((rota : List Duty) → IsTrue (is_legal_rota plan.instance rota) → HasHeadsOf plan.instance r.before rota → floor ≤ cost plan.instance rota) → BoundsBreaks plan r
bounded plan r floor old is low rota legal heads =
    let one : floor ≤ cost plan.instance rota = low rota legal heads in
    let other : plan.cert.bound ≤ cost plan.instance rota = bounds plan.instance plan.cert old rota legal in
    omega (arith, is, one, other)

-- ---- after so many steps the floor is what the plan costs

-- what the plan costs then
paid_now : (plan : JudgedPlan) (r : Rebroken) (cheaper : Option (List Row)) → plan.cert.plan ≡ Some (r.cost_before, r.before) → r.plan.cert ≡ cert_after plan.instance plan.cert cheaper → IsTrue (is_accepted plan.instance plan.cert)
    → option_map (λ (p : ℕ × List Row). p.0) r.plan.cert.plan ≡ Some (cost plan.instance (rota_of (rows_after r.before cheaper)))
paid_now plan r None is cert old =
    let parts = plan_parts plan.instance plan.cert r.cost_before r.before old is in
    ap (λ (c : Cert). option_map (λ (p : ℕ × List Row). p.0) c.plan) cert ∙ ap (option_map (λ (p : ℕ × List Row). p.0)) is ∙ ap Some (sym parts.1)
paid_now plan r (Some rows) is cert old = ap (λ (c : Cert). option_map (λ (p : ℕ × List Row). p.0) c.plan) cert

-- and the bound of its report is no more than that
bound_now : (plan : JudgedPlan) (r : Rebroken) (cheaper : Option (List Row)) → plan.cert.plan ≡ Some (r.cost_before, r.before) → IsTrue (is_accepted plan.instance plan.cert) → IfSome cheaper (IsCheaper plan.instance r.before)
    → plan.cert.bound ≤ cost plan.instance (rota_of (rows_after r.before cheaper))
bound_now plan r None is old better =
    bounds plan.instance plan.cert old (rota_of r.before) (legal_rows_parts plan.instance r.before (plan_parts plan.instance plan.cert r.cost_before r.before old is).0).legal
bound_now plan r (Some rows) is old better = bounds plan.instance plan.cert old (rota_of rows) (legal_rows_parts plan.instance rows better.legal).legal

best_now : (plan : JudgedPlan) (r : Rebroken) (cheaper : Option (List Row)) (paid floor : ℕ) (asks : Bool) → plan.cert.plan ≡ Some (r.cost_before, r.before) → r.plan.cert ≡ cert_after plan.instance plan.cert cheaper
    → IsTrue (is_accepted plan.instance plan.cert) → IfSome cheaper (IsCheaper plan.instance r.before) → paid ≡ cost plan.instance (rota_of (rows_after r.before cheaper)) → r.floor ≡ max floor plan.cert.bound
    → (floor ≡ paid) ⊎ (asks ≡ true) → CostsItsFloor r ⊎ (asks ≡ true)
best_now plan r cheaper paid floor asks is cert old better cost_is most (inr asked) = inr asked
best_now plan r cheaper paid floor asks is cert old better cost_is most (inl same) =
    let low : plan.cert.bound ≤ cost plan.instance (rota_of (rows_after r.before cheaper)) = bound_now plan r cheaper is old better in
    let floor_is : cost plan.instance (rota_of (rows_after r.before cheaper)) ≡ r.floor = omega (arith, low, cost_is, most, same) in
    inl (paid_now plan r cheaper is cert old ∙ ap Some floor_is)

-- steps that are enough for a plan are enough for its rows
steps_of_rows : (plan : JudgedPlan) (r : Rebroken) (steps : ℕ) → plan.cert.plan ≡ Some (r.cost_before, r.before) → AreEnough plan steps → steps_for plan.instance r.before ≤ steps
steps_of_rows plan r steps is h = subst (λ (o : Option (ℕ × List Row)). IfSome o (λ p. steps_for plan.instance p.1 ≤ steps)) is h

pub best_after : (plan : JudgedPlan) (r : Rebroken) (cheaper : Option (List Row)) (paid floor steps : ℕ) (asks : Bool) → plan.cert.plan ≡ Some (r.cost_before, r.before) → r.plan.cert ≡ cert_after plan.instance plan.cert cheaper
    → IsTrue (is_accepted plan.instance plan.cert) → IfSome cheaper (IsCheaper plan.instance r.before) → paid ≡ cost plan.instance (rota_of (rows_after r.before cheaper)) → r.floor ≡ max floor plan.cert.bound
    → (steps_for plan.instance r.before ≤ steps → (floor ≡ paid) ⊎ (asks ≡ true)) → AreEnough plan steps → CostsItsFloor r ⊎ (asks ≡ true)
best_after plan r cheaper paid floor steps asks is cert old better cost_is most known enough =
    best_now plan r cheaper paid floor asks is cert old better cost_is most (known (steps_of_rows plan r steps is enough))
