-- The plan of a settled node, and its floor, the plan's cost.
use Rattle.dual_bound.proofs.Common.{◌≡◌, true, false, cond, ◌&&◌, List, sym, ap, ◌∙◌, Option, Some, None, and_parts, not-false, false≢true, Problem, cost, rota_of, are_legal_rows, is_legal_rota, Cut, meets, is_empty, settled_plan, settled_rows, settled_floor, IsPlan}
use Rattle.std.proofs.Common.{MatchOption}
use Rattle.shift_instance.specs.declared.Row.{Row}
use Rattle.shift_instance.specs.declared.TheConstants.{TOP}
use Rattle.rota_cost.specs.Costed.{Costing, IsCosted}
use Rattle.head_splits.proofs.PlanRows.{rota_of-settled_rows, settled_rows_legal}

pub plan_floor : (i : Problem) (cuts : List Cut) (plan : Option Costing) (c : Costing) → plan ≡ Some c
    → MatchOption plan (is_empty i cuts ≡ true) (IsPlan i cuts) → c.cost ≡ settled_floor i cuts
plan_floor i cuts None c e h = cc
plan_floor i cuts (Some p) c e h =
    let same : p ≡ c = cc in
    ap (λ (c : Costing). c.cost) (sym same) ∙ h.costed.exact ∙ ap (λ j. cost j (rota_of p.rows)) h.instance ∙ ap (λ rows. cost i (rota_of rows)) h.rows
    ∙ ap (cost i) (rota_of-settled_rows i cuts) ∙ ap (λ b. cond b TOP (cost i (settled_plan i cuts))) (sym h.some)

-- rows of a plan that isn't empty are legal, and so have their cost
pub plan_sealed : (i : Problem) (cuts : List Cut) (rows : List Row) (plan : Option Costing) → is_empty i cuts ≡ false → rows ≡ settled_rows i cuts
    → MatchOption plan (are_legal_rows i rows ≡ false) (λ c. (c.instance ≡ i) × (c.rows ≡ rows) × IsCosted c)
    → MatchOption plan (is_empty i cuts ≡ true) (IsPlan i cuts)
plan_sealed i cuts rows None some is h =
    let both : (is_legal_rota i (settled_plan i cuts) && meets (settled_plan i cuts) cuts) ≡ true = not-false _ some in
    let legal = settled_rows_legal i cuts (and_parts (is_legal_rota i (settled_plan i cuts)) (meets (settled_plan i cuts) cuts) both).0 in
    absurd (false≢true (sym h ∙ ap (are_legal_rows i) is ∙ legal))
plan_sealed i cuts rows (Some c) some is h = record { some = some; instance = h.0; rows = h.1 ∙ is; costed = h.2 }
