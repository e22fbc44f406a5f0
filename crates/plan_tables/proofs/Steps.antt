-- Lists and counts over the numbers below one more.
use Rattle.plan_tables.proofs.Common.{◌≡◌, ℕ, ◌+◌, ◌<◌, ◌≤◌, Bool, true, false, ◌==◌, cond, List, [], ◌∷◌, ◌++◌, map, filter, count_by, sym, ap, ◌∙◌, subst, arith, nat_lt, zero-add, append-nil, list_any, lt-ltb, map-append, Duty, Row, Problem, below, are_legal_rows, is_used, rota_of, below_next, sum_below_more, legal_rows_parts, CostlySlot, costly_slot, costs}
use Rattle.std.proofs.lemmas.List.FromFn.{filter_of_map_range_with_len_more}
use Rattle.shift_instance.proofs.RowCounts.{any_rows}

pub map_below_more : {X : Type 0} (f : ℕ → X) (n : ℕ) → map f (below (n + 1)) ≡ map f (below n) ++ f n ∷ []
map_below_more f n = ap (map f) (below_next n) ∙ map-append f (below n) (n ∷ [])

-- one slot more that costs something
pub costly_more : (i : Problem) (rota : List Duty) (t : ℕ) (s : CostlySlot) → s ≡ costly_slot i rota t → 0 < s.cost → filter costs (map (costly_slot i rota) (below (t + 1))) ≡ filter costs (map (costly_slot i rota) (below t)) ++ s ∷ []
costly_more i rota t s e h =
    let passes : costs (costly_slot i rota t) ≡ true = subst (λ (x : CostlySlot). costs x ≡ true) e (lt-ltb 0 s.cost h) in
    filter_of_map_range_with_len_more costs (costly_slot i rota) 0 t t (zero-add t)
    ∙ ap (λ (b : Bool). filter costs (map (costly_slot i rota) (below t)) ++ cond b (costly_slot i rota t ∷ []) []) passes
    ∙ ap (λ (x : CostlySlot). filter costs (map (costly_slot i rota) (below t)) ++ x ∷ []) (sym e)

-- one slot more that costs nothing
pub cheap_more : (i : Problem) (rota : List Duty) (t : ℕ) (s : CostlySlot) → s ≡ costly_slot i rota t → s.cost ≤ 0 → filter costs (map (costly_slot i rota) (below (t + 1))) ≡ filter costs (map (costly_slot i rota) (below t))
cheap_more i rota t s e h =
    let nothing : s.cost ≡ 0 = omega arith in
    let fails : costs (costly_slot i rota t) ≡ false = subst (λ (x : CostlySlot). costs x ≡ false) e (ap (λ (n : ℕ). nat_lt 0 n) nothing) in
    filter_of_map_range_with_len_more costs (costly_slot i rota) 0 t t (zero-add t)
    ∙ ap (λ (b : Bool). filter costs (map (costly_slot i rota) (below t)) ++ cond b (costly_slot i rota t ∷ []) []) fails
    ∙ append-nil (filter costs (map (costly_slot i rota) (below t)))

-- a shift is used where it has a row
pub used_row : (i : Problem) (rows : List Row) (s : ℕ) → are_legal_rows i rows ≡ true → is_used (rota_of rows) s ≡ list_any (λ r. r.shift == s) rows
used_row i rows s h = any_rows (λ d. d.shift == s) rows (legal_rows_parts i rows h).counted

pub used_more : (rota : List Duty) (n : ℕ) → count_by (is_used rota) (below (n + 1)) ≡ count_by (is_used rota) (below n) + cond (is_used rota n) 1 0
used_more rota n = sum_below_more (λ s. cond (is_used rota s) 1 0) n
