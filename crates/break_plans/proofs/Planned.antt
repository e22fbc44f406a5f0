-- What a search below the pins of rows shows of breaks planned anew.
use Rattle.std.proofs.Common.{◌≡◌, ℕ, zero, suc, ◌+◌, ◌*◌, ◌^◌, ◌<◌, ◌≤◌, List, [], ◌∷◌, ◌++◌, length, refl, sym, ap, ◌∙◌, subst, arith, Option, Some, None, Result, Ok, Err}
use Rattle.std.specs.Prelude.{IfOk, IfSome, IsTrue}
use Rattle.std.specs.List.{flat_map, range_with_len}
use Rattle.std.specs.Option.{option_map}
use Rattle.std.proofs.lemmas.Bool.{cond_both}
use Rattle.std.proofs.lemmas.List.{length-append}
use Rattle.shift_instance.specs.declared.Duty.{Duty}
use Rattle.shift_instance.specs.declared.Row.{Row}
use Rattle.shift_instance.specs.Problem.{Problem, shift_list, below}
use Rattle.shift_instance.specs.Valid.{IsValid}
use Rattle.shift_instance.specs.Rota.{are_legal_rows, cost, heads_on, is_legal_rota, lists_of, rota_of}
use Rattle.rota_cost.specs.Costed.{Costing}
use Rattle.head_splits.specs.declared.Cut.{Cut}
use Rattle.head_splits.specs.Bound.{is_nil}
use Rattle.head_splits.specs.Cuts.{meets}
use Rattle.report_grafts.specs.Pins.{pins_of, pins_of_shift, pins_on}
use Rattle.report_grafts.specs.Run.{Run, top}
use Rattle.report_grafts.proofs.Pinned.{pins_fix}
use Rattle.subtree_search.specs.Searching.{top_of}
use Rattle.subtree_search.specs.Stepping.{IsSearched}
use Rattle.subtree_search.proofs.Sound.{steps_hold, Holds, IsKept}
use Rattle.break_plans.specs.declared.planning.Anew.{Anew}
use Rattle.break_plans.specs.Anew.{rows_after, ComesOfSearch, HasHeadsOf, IsCheaper}

-- ---- pins

flat_length : {A B : Type 0} (f : A → List B) (most : ℕ) (xs : List A) → ((x : A) → length (f x) ≤ most) → length (flat_map f xs) ≤ most * length xs
flat_length f most [] h = omega arith
flat_length f most (x ∷ xs) h =
    let a : length (f x ++ flat_map f xs) ≡ length (f x) + length (flat_map f xs) = length-append (f x) (flat_map f xs) in
    let here : length (f x) ≤ most = h x in
    let rest : length (flat_map f xs) ≤ most * length xs = flat_length f most xs h in
    omega (arith, a, here, rest)

count_below : (from n : ℕ) → length (range_with_len from n) ≡ n
count_below from zero = refl
count_below from (suc n) = let rest = count_below (from + 1) n in omega (arith, rest)

pins_of_one : (i : Problem) (rota : List Duty) (s : ℕ) → i.days ≤ 7 → length (pins_of_shift i rota s) ≤ 14
pins_of_one i rota s few =
    cond_both (is_nil (lists_of i s)) [] (flat_map (λ day. pins_on s day (heads_on rota s day)) (below i.days)) (λ (cs : List Cut). length cs ≤ 14)
    (λ e. omega arith)
    (λ e.
    let all : length (flat_map (λ day. pins_on s day (heads_on rota s day)) (below i.days)) ≤ 2 * length (below i.days) = flat_length (λ day. pins_on s day (heads_on rota s day)) 2 (below i.days) (λ day. omega arith) in
    let days : length (below i.days) ≡ i.days = count_below 0 i.days in
    omega (arith, all, days, few))

-- rows have few pins
pub few_pins : (i : Problem) (rota : List Duty) → IsValid i → length (pins_of i rota) ≤ 2 ^ 28
few_pins i rota valid =
    let days : i.days ≤ 7 = valid.days in
    let shifts : length (shift_list i) ≤ 1024 = valid.shifts in
    let all : length (pins_of i rota) ≤ 14 * length (below (length (shift_list i))) = flat_length (pins_of_shift i rota) 14 (below (length (shift_list i))) (λ s. pins_of_one i rota s days) in
    let count : length (below (length (shift_list i))) ≡ length (shift_list i) = count_below 0 (length (shift_list i)) in
    omega (arith, all, count, shifts)

-- ---- the run

held : (i : Problem) (rows : List Row) (limit budget : ℕ) (r : Run) → IsValid i → (s : IsSearched i (pins_of i (rota_of rows)) limit budget r) → Holds i (pins_of i (rota_of rows)) limit s.search 0
held i rows limit budget r valid s = steps_hold i (pins_of i (rota_of rows)) limit s.search valid s.steps

-- a rota that the search may keep has cheaper rows
cheaper_best : (i : Problem) (rows : List Row) (limit : ℕ) (best : Option Costing) → limit ≡ cost i (rota_of rows) → IfSome best (IsKept i (pins_of i (rota_of rows)) limit) → IfSome (option_map (λ (b : Costing). b.rows) best) (IsCheaper i rows)
cheaper_best i rows limit None e h = tt
cheaper_best i rows limit (Some b) e h =
    let legal : IsTrue (are_legal_rows i b.rows) = subst (λ (p : Problem). IsTrue (are_legal_rows p b.rows)) h.0 h.1.legal in
    let exact : b.cost ≡ cost i (rota_of b.rows) = subst (λ (p : Problem). b.cost ≡ cost p (rota_of b.rows)) h.0 h.1.exact in
    let less : b.cost < limit = h.3 in
    record { legal = legal; heads = (pins_fix i (rota_of b.rows) (rota_of rows)).0 h.2; less = omega (arith, exact, less, e) }

-- and the rows that stand then cost the top
cost_best : (i : Problem) (rows : List Row) (limit : ℕ) (best : Option Costing) → limit ≡ cost i (rota_of rows) → IfSome best (IsKept i (pins_of i (rota_of rows)) limit)
    → top_of limit best ≡ cost i (rota_of (rows_after rows (option_map (λ (b : Costing). b.rows) best)))
cost_best i rows limit None e h = e
cost_best i rows limit (Some b) e h =
    let exact : b.cost ≡ cost i (rota_of b.rows) = subst (λ (p : Problem). b.cost ≡ cost p (rota_of b.rows)) h.0 h.1.exact in
    let less : b.cost < limit = h.3 in
    omega (arith, exact, less)

pub cheaper_rows : (i : Problem) (rows : List Row) (limit budget : ℕ) (r : Run) (found : Option (List Row)) → IsValid i → limit ≡ cost i (rota_of rows)
    → IsSearched i (pins_of i (rota_of rows)) limit budget r → found ≡ option_map (λ (b : Costing). b.rows) r.best → IfSome found (IsCheaper i rows)
cheaper_rows i rows limit budget r found valid e s is =
    let same : r.best ≡ s.search.best = ap (λ (x : Run). x.best) s.run in
    subst (λ (o : Option (List Row)). IfSome o (IsCheaper i rows)) (sym (is ∙ ap (λ (o : Option Costing). option_map (λ (b : Costing). b.rows) o) same))
    (cheaper_best i rows limit s.search.best e (held i rows limit budget r valid s).best)

pub cost_known : (i : Problem) (rows : List Row) (limit budget paid : ℕ) (r : Run) (found : Option (List Row)) → IsValid i → limit ≡ cost i (rota_of rows)
    → IsSearched i (pins_of i (rota_of rows)) limit budget r → found ≡ option_map (λ (b : Costing). b.rows) r.best → paid ≡ top r → paid ≡ cost i (rota_of (rows_after rows found))
cost_known i rows limit budget paid r found valid e s is topped =
    let h = held i rows limit budget r valid s in
    let same : r.best ≡ s.search.best = ap (λ (x : Run). x.best) s.run in
    let is_top : top r ≡ top_of s.search.limit s.search.best = ap (λ (x : Run). top x) s.run in
    let limited : top_of s.search.limit s.search.best ≡ top_of limit s.search.best = ap (λ (n : ℕ). top_of n s.search.best) h.limited in
    topped ∙ is_top ∙ limited ∙ cost_best i rows limit s.search.best e h.best
    ∙ ap (λ (o : Option (List Row)). cost i (rota_of (rows_after rows o))) (sym (is ∙ ap (λ (o : Option Costing). option_map (λ (b : Costing). b.rows) o) same))

pub floor_known : (i : Problem) (rows : List Row) (limit budget floor : ℕ) (r : Run) → IsValid i → IsSearched i (pins_of i (rota_of rows)) limit budget r
    → ((rota : List Duty) → IsTrue (is_legal_rota r.instance rota) → IsTrue (meets rota r.base) → floor ≤ cost r.instance rota)
    → (rota : List Duty) → IsTrue (is_legal_rota i rota) → HasHeadsOf i rows rota → floor ≤ cost i rota
floor_known i rows limit budget floor r valid s h rota legal heads =
    let own : r.instance ≡ i = ap (λ (x : Run). x.instance) s.run in
    let base : r.base ≡ pins_of i (rota_of rows) = ap (λ (x : Run). x.base) s.run ∙ (held i rows limit budget r valid s).based in
    let met : IsTrue (meets rota (pins_of i (rota_of rows))) = (pins_fix i rota (rota_of rows)).1 heads in
    subst (λ (p : Problem). floor ≤ cost p rota) own
    (h rota (subst (λ (p : Problem). IsTrue (is_legal_rota p rota)) (sym own) legal) (subst (λ (cs : List Cut). IsTrue (meets rota cs)) (sym base) met))

-- ---- the answer, where it isn't for want of memory

pub ok_cheaper : {E : Type 0} (i : Problem) (rows : List Row) (limit budget : ℕ) (base : List Cut) (r : Run) (result : Result Anew E) → IsValid i → limit ≡ cost i (rota_of rows)
    → base ≡ pins_of i (rota_of rows) → IsSearched i base limit budget r → IfOk result (λ a. a.cheaper ≡ option_map (λ (b : Costing). b.rows) r.best) → IfOk result (λ a. IfSome a.cheaper (IsCheaper i rows))
ok_cheaper i rows limit budget base r (Ok a) valid e is s h = cheaper_rows i rows limit budget r a.cheaper valid e (subst (λ (cs : List Cut). IsSearched i cs limit budget r) is s) h
ok_cheaper i rows limit budget base r (Err x) valid e is s h = tt

pub ok_cost : {E : Type 0} (i : Problem) (rows : List Row) (limit budget : ℕ) (base : List Cut) (r : Run) (result : Result Anew E) → IsValid i → limit ≡ cost i (rota_of rows)
    → base ≡ pins_of i (rota_of rows) → IsSearched i base limit budget r → IfOk result (λ a. a.cheaper ≡ option_map (λ (b : Costing). b.rows) r.best) → IfOk result (λ a. a.cost ≡ top r)
    → IfOk result (λ a. a.cost ≡ cost i (rota_of (rows_after rows a.cheaper)))
ok_cost i rows limit budget base r (Ok a) valid e is s h t = cost_known i rows limit budget a.cost r a.cheaper valid e (subst (λ (cs : List Cut). IsSearched i cs limit budget r) is s) h t
ok_cost i rows limit budget base r (Err x) valid e is s h t = tt

pub ok_floor : {E : Type 0} (i : Problem) (rows : List Row) (limit budget : ℕ) (base : List Cut) (r : Run) (result : Result Anew E) → IsValid i
    → base ≡ pins_of i (rota_of rows) → IsSearched i base limit budget r
    → IfOk result (λ a. (rota : List Duty) → IsTrue (is_legal_rota r.instance rota) → IsTrue (meets rota r.base) → a.floor ≤ cost r.instance rota)
    → IfOk result (λ a. (rota : List Duty) → IsTrue (is_legal_rota i rota) → HasHeadsOf i rows rota → a.floor ≤ cost i rota)
ok_floor i rows limit budget base r (Ok a) valid is s h = floor_known i rows limit budget a.floor r valid (subst (λ (cs : List Cut). IsSearched i cs limit budget r) is s) h
ok_floor i rows limit budget base r (Err x) valid is s h = tt

pub ok_searched : {E : Type 0} (i : Problem) (rows : List Row) (limit budget : ℕ) (base : List Cut) (r : Run) (result : Result Anew E) → limit ≡ cost i (rota_of rows)
    → base ≡ pins_of i (rota_of rows) → IsSearched i base limit budget r → IfOk result (λ a. a.cheaper ≡ option_map (λ (b : Costing). b.rows) r.best) → IfOk result (λ a. a.cost ≡ top r)
    → IfOk result (λ a. a.floor ≡ r.floor) → IfOk result (λ a. a.steps ≡ r.taken) → IfOk result (ComesOfSearch i rows budget)
ok_searched i rows limit budget base r (Ok a) e is s found paid low taken =
    record {
      run = r;
      searched = subst (λ n. IsSearched i (pins_of i (rota_of rows)) n budget r) e (subst (λ (cs : List Cut). IsSearched i cs limit budget r) is s);
      cheaper = found;
      cost = paid;
      floor = low;
      taken = taken;
    }
ok_searched i rows limit budget base r (Err x) e is s found paid low taken = tt
