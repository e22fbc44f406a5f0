-- The rows of a legal plan are legal, and stand for the plan's duties.
use Rattle.greedy.proofs.Common.{◌≡◌, inl, inr, ◌*◌, true, cond, List, filter, drop, sym, ap, ◌∙◌, subst, arith, nat_lt, nat_le, flat_map, list_all, zip, count_by, and_parts, and_from, cases_Bool, Has, from_map, from_flat_map, from_filter, from_replicate, all_at, all_from, sum_by_same, sum_by_if, count_by-flat_map, count_by-replicate, cond_same, Sorted-map, Sorted-filter, Duty, Row, Problem, same_duty, count_of, heads_on, is_legal_duty, is_legal_rota, is_before, rota_of, are_legal_rows, cost, same_duty_decides, AreAlike, alike_from_counts, alike_cost, alike_legal, rows_of, all_duties, row_of, adjacent, from_all_duties, no_count, once_in_duties, rows_of_counts, IsBefore, Sorted-all_duties}
use Rattle.std.proofs.Common.{replicate}

rows_ordered : (i : Problem) (rota : List Duty) → list_all (λ p. is_before p.0 p.1) (zip (rows_of i rota) (drop 1 (rows_of i rota))) ≡ true
rows_ordered i rota =
    adjacent is_before (rows_of i rota)
    (Sorted-map IsBefore (λ x y. is_before x y ≡ true) (λ d. row_of d (count_of rota d)) (filter (λ d. nat_lt 0 (count_of rota d)) (all_duties i))
    (λ x y h. h (count_of rota x) (count_of rota y))
    (Sorted-filter IsBefore (λ d. nat_lt 0 (count_of rota d)) (all_duties i) (Sorted-all_duties i)))

-- none of them is empty
rows_some : (i : Problem) (rota : List Duty) → list_all (λ r. nat_lt 0 r.count) (rows_of i rota) ≡ true
rows_some i rota =
    all_from (λ r. nat_lt 0 r.count) (rows_of i rota) (λ r m.
    let d = from_map (λ d. row_of d (count_of rota d)) (filter (λ d. nat_lt 0 (count_of rota d)) (all_duties i)) r m in
    subst (λ (r : Row). nat_lt 0 r.count ≡ true) d.2 (from_filter (λ d. nat_lt 0 (count_of rota d)) (all_duties i) d.0 d.1).1)

-- each legal duty stands as often in the rota of the rows as in the plan
rows_count : (i : Problem) (rota : List Duty) (d : Duty) → is_legal_duty i d ≡ true → count_of (flat_map (λ e. replicate (count_of rota e) e) (all_duties i)) d ≡ count_of rota d
rows_count i rota d h =
    count_by-flat_map (same_duty d) (λ e. replicate (count_of rota e) e) (all_duties i)
    ∙ sum_by_same (λ e. count_by (same_duty d) (replicate (count_of rota e) e)) (λ e. cond (same_duty d e) (count_of rota d) 0) (all_duties i) (λ e m.
    count_by-replicate (same_duty d) (count_of rota e) e
    ∙ cond_same (same_duty d e) (count_of rota e) (count_of rota d) (λ t. ap (count_of rota) (sym ((same_duty_decides d e).0 t))))
    ∙ sum_by_if (same_duty d) (count_of rota d) (all_duties i)
    ∙ ap (λ n. count_of rota d * n) (once_in_duties i d h) ∙ omega arith

rows_from : (i : Problem) (rota : List Duty) (d : Duty) → Has (flat_map (λ e. replicate (count_of rota e) e) (all_duties i)) d → is_legal_duty i d ≡ true
rows_from i rota d m =
    let a = from_flat_map (λ e. replicate (count_of rota e) e) (all_duties i) d m in
    subst (λ x. is_legal_duty i x ≡ true) (from_replicate (count_of rota a.0) a.0 d a.2) (from_all_duties i a.0 a.1)

-- the rota of a legal plan's rows has the plan's duties
pub rows_alike : (i : Problem) (rota : List Duty) → is_legal_rota i rota ≡ true → AreAlike rota (rota_of (rows_of i rota))
rows_alike i rota legal =
    subst (λ (zs : List Duty). AreAlike rota zs) (sym (rows_of_counts (count_of rota) (all_duties i)))
    (alike_from_counts rota (flat_map (λ e. replicate (count_of rota e) e) (all_duties i)) (λ d.
    elim (cases_Bool (is_legal_duty i d)) [
      | inl t ↦ sym (rows_count i rota d t)
      | inr f ↦
          no_count i rota d (λ x m. all_at (is_legal_duty i) rota x (and_parts (list_all (is_legal_duty i) rota) (list_all (λ d. nat_le (heads_on rota d.shift d.day) i.heads) rota) legal).0 m) f
          ∙ sym (no_count i (flat_map (λ e. replicate (count_of rota e) e) (all_duties i)) d (rows_from i rota) f)
    ]))

-- so the rows are legal, and cost what the plan costs
pub rows_legal : (i : Problem) (rota : List Duty) → is_legal_rota i rota ≡ true → are_legal_rows i (rows_of i rota) ≡ true
rows_legal i rota legal =
    and_from _ (is_legal_rota i (rota_of (rows_of i rota)))
    (and_from _ _ (rows_ordered i rota) (rows_some i rota))
    (alike_legal i rota (rota_of (rows_of i rota)) (rows_alike i rota legal) legal)

pub rota_costs : (i : Problem) (rota : List Duty) → is_legal_rota i rota ≡ true → cost i (rota_of (rows_of i rota)) ≡ cost i rota
rota_costs i rota legal = sym (alike_cost i rota (rota_of (rows_of i rota)) (rows_alike i rota legal))
