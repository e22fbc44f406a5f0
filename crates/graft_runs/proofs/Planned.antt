-- What a search below the pins of rows finds.
use Rattle.graft_runs.proofs.Common.{◌≡◌, ℕ, ◌<◌, ◌≤◌, min, true, false, ◌==◌, List, refl, sym, ap, ◌∙◌, subst, arith, Option, Some, None, IfSome, option_map_or, and_parts, eqb-true, Row, TOP, Problem, IsValid, are_legal_rows, cost, is_legal_rota, rota_of, Cut, Cert, is_accepted, is_bound, is_plan, lines_text, pins_of, Run, top, IsBest, IsSound, IsGreedyRun, IsSearched, steps_hold, ArePlannedAnew, CostsAtLeast, IsPlannedAnew, IsSearch, breaks_lines}
use Rattle.rota_cost.specs.Costed.{Costing}
use Rattle.head_splits.specs.Cuts.{meets}
use Rattle.report_grafts.proofs.Pinned.{pins_fix}
use Rattle.report_grafts.proofs.Runs.{floor_enough}
use Rattle.graft_runs.proofs.Texts.{limit_small}

-- ---- a run of steps is of its instance, its cuts and its limit

pub run_instance : (i : Problem) (base : List Cut) (limit budget : ℕ) (r : Run) → IsSearched i base limit budget r → r.instance ≡ i
run_instance i base limit budget r s = ap (λ (x : Run). x.instance) s.run

pub run_base : (i : Problem) (base : List Cut) (limit budget : ℕ) (r : Run) → IsValid i → IsSearched i base limit budget r → r.base ≡ base
run_base i base limit budget r valid s =
    let same : r.base ≡ s.search.base = ap (λ (x : Run). x.base) s.run in
    let held : s.search.base ≡ base = (steps_hold i base limit s.search valid s.steps).based in
    same ∙ held

run_limit : (i : Problem) (base : List Cut) (limit budget : ℕ) (r : Run) → IsValid i → IsSearched i base limit budget r → r.limit ≡ limit
run_limit i base limit budget r valid s =
    let same : r.limit ≡ s.search.limit = ap (λ (x : Run). x.limit) s.run in
    let held : s.search.limit ≡ limit = (steps_hold i base limit s.search valid s.steps).limited in
    same ∙ held

-- ---- the plan of an accepted certificate

judged_plan : (i : Problem) (o : Option (ℕ × List Row)) (p : ℕ × List Row) → o ≡ Some p → is_plan i o ≡ true → (are_legal_rows i p.1 ≡ true) × (cost i (rota_of p.1) ≡ p.0)
judged_plan i o p is h =
    let told : is_plan i (Some p) ≡ true = subst (λ (q : Option (ℕ × List Row)). is_plan i q ≡ true) is h in
    let both = and_parts (are_legal_rows i p.1) (cost i (rota_of p.1) == p.0) told in
    (both.0, eqb-true _ _ both.1)

pub true_plan : (i : Problem) (whole : Cert) (p : ℕ × List Row) → is_accepted i whole ≡ true → whole.plan ≡ Some p → (are_legal_rows i p.1 ≡ true) × (cost i (rota_of p.1) ≡ p.0)
true_plan i whole p accepted is = judged_plan i whole.plan p is (and_parts (is_bound i whole.lines whole.bound) (is_plan i whole.plan) accepted).1

pub plan_small : (i : Problem) (whole : Cert) (p : ℕ × List Row) → IsValid i → is_accepted i whole ≡ true → whole.plan ≡ Some p → p.0 ≤ TOP
plan_small i whole p valid accepted is =
    let costs : option_map_or (λ (q : ℕ × List Row). q.0) whole.plan TOP ≡ p.0 = ap (λ (o : Option (ℕ × List Row)). option_map_or (λ (q : ℕ × List Row). q.0) o TOP) is in
    subst (λ n. n ≤ TOP) costs (limit_small i whole valid accepted)

-- ---- the rows that are written

best_planned : (i : Problem) (rows : List Row) (r : Run) (b : Costing) → r.instance ≡ i → r.base ≡ pins_of i (rota_of rows) → IsBest r b → IsPlannedAnew i rows (b.cost, b.rows)
best_planned i rows r b of pinned best =
    let same : b.instance ≡ i = best.same ∙ of in
    let below : meets (rota_of b.rows) (pins_of i (rota_of rows)) ≡ true = subst (λ (cuts : List Cut). meets (rota_of b.rows) cuts ≡ true) pinned best.meets in
    record {
      legal = subst (λ (j : Problem). are_legal_rows j b.rows ≡ true) same best.costed.legal;
      exact = sym (subst (λ (j : Problem). b.cost ≡ cost j (rota_of b.rows)) same best.costed.exact);
      heads = (pins_fix i (rota_of b.rows) (rota_of rows)).0 below;
    }

after_planned : (i : Problem) (p : ℕ × List Row) (r : Run) (o : Option Costing) → are_legal_rows i p.1 ≡ true → cost i (rota_of p.1) ≡ p.0 → r.instance ≡ i → r.base ≡ pins_of i (rota_of p.1) → IfSome o (IsBest r)
    → IsPlannedAnew i p.1 (option_map_or (λ b. (b.cost, b.rows)) o p)
after_planned i p r None legal exact of pinned best = record { legal = legal; exact = exact; heads = λ s day _ _ _. refl }
after_planned i p r (Some b) legal exact of pinned best = best_planned i p.1 r b of pinned best

-- ---- what they cost

top_after : (p : ℕ × List Row) (r : Run) (o : Option Costing) → r.limit ≡ p.0 → IfSome o (IsBest r) → option_map_or (λ (b : Costing). min r.limit b.cost) o r.limit ≡ (option_map_or (λ b. (b.cost, b.rows)) o p).0
top_after p r None limit best = limit
top_after p r (Some b) limit best = let less : b.cost < r.limit = best.less in omega (arith, less)

no_cheaper : (i : Problem) (rows : List Row) (r : Run) → r.instance ≡ i → r.base ≡ pins_of i (rota_of rows) → IsSound r → CostsAtLeast i rows r.floor
no_cheaper i rows r of pinned sound rota legal heads =
    let met : meets rota r.base ≡ true = subst (λ (cuts : List Cut). meets rota cuts ≡ true) (sym pinned) ((pins_fix i rota (rota_of rows)).1 heads) in
    let lawful : is_legal_rota r.instance rota ≡ true = subst (λ (j : Problem). is_legal_rota j rota ≡ true) (sym of) legal in
    subst (λ (j : Problem). r.floor ≤ cost j rota) of (floor_enough r sound rota lawful met)

-- the lines of rows after a search below their pins say what they say
pub anew : (i : Problem) (whole : Cert) (steps : ℕ) (p : ℕ × List Row) (r : Run) (text : List ℕ) → IsValid i → is_accepted i whole ≡ true → whole.plan ≡ Some p
    → are_legal_rows i p.1 ≡ true → cost i (rota_of p.1) ≡ p.0
    → IsSearch i (pins_of i (rota_of p.1)) p.0 steps false r → IsGreedyRun i (pins_of i (rota_of p.1)) p.0 r → text ≡ lines_text (breaks_lines r p) → ArePlannedAnew i whole steps text
anew i whole steps p r text valid accepted plan legal exact search greedy lines =
    let base = pins_of i (rota_of p.1) in
    let of = run_instance i base p.0 steps r search.searched in
    let pinned = run_base i base p.0 steps r valid search.searched in
    let limit = run_limit i base p.0 steps r valid search.searched in
    record {
      accepted = accepted;
      plan = p;
      rows = plan;
      run = r;
      search = search;
      greedy = greedy;
      planned = after_planned i p r r.best legal exact of pinned search.sound.best;
      bound = no_cheaper i p.1 r of pinned search.sound;
      best = λ done. eqb-true r.floor (top r) done ∙ top_after p r r.best limit search.sound.best;
      lines = lines;
    }
