-- Carried rows are legal.
use Rattle.carried_rows.proofs.Common.{◌≡◌, ℕ, ◌<◌, ◌≤◌, true, cond, ◌&&◌, ◌==◌, List, [], length, filter, drop, refl, sym, ◌∙◌, subst, arith, eqb-true, nat_lt, nat_le, sum_by, Option, Some, None, option_map_or, list_all, zip, and_parts, and_from, cond_both, le-leb, lt-ltb, Has, Sorted, from_flat_map, all_from, Sorted-flat_map, Sorted-range, Row, Problem, shift_list, below, is_list_of, is_legal_duty, is_legal_rota, is_on, heads_on, duty_of, rota_of, is_before, are_legal_rows, legal_rows_parts, like_of, goes_to, carried_on, carried_to, carried_of, carried}
use Rattle.shift_instance.proofs.AllDuties.{adjacent}
use Rattle.shift_instance.proofs.RowCounts.{all_rows, heads_rows}
use Rattle.carried_rows.proofs.RowOrder.{IsBefore, legal_sorted}
use Rattle.carried_rows.proofs.Fitting.{before_shift, IsCarriedTo, shift_carried, shift_sorted, on_carried, fitted_few, one_block, zero_sum}

-- what a row adds to the duties of a shift on a day
abbrev adds : ℕ → ℕ → Row → ℕ
adds s day r = cond (is_on s day (duty_of r)) r.count 0

adds_few : (s day : ℕ) (r : Row) → adds s day r ≤ r.count
adds_few s day r = cond_both (is_on s day (duty_of r)) r.count 0 (λ n. n ≤ r.count) (λ e. omega arith) (λ e. omega arith)

-- a row of another shift or day adds nothing
adds_none : (s day : ℕ) (r : Row) → ((r.shift ≡ s) × (r.day ≡ day) → ⊥) → adds s day r ≡ 0
adds_none s day r other =
    cond_both (is_on s day (duty_of r)) r.count 0 (λ n. n ≡ 0)
    (λ e. let p = and_parts (r.shift == s) (r.day == day) e in absurd (other (eqb-true r.shift s p.0, eqb-true r.day day p.1)))
    (λ e. refl)

-- the rows of a shift have no more duties on a day than one shift may have
to_few : (j : Problem) (rows : List Row) (from s day t : ℕ) → list_all (λ x. nat_lt 0 x.count) rows ≡ true → sum_by (adds s day) (carried_to j rows from t) ≤ j.heads
to_few j rows from s day t counted =
    one_block (adds s day) (carried_on j rows from t) 0 j.days day j.heads
    (λ x ne. zero_sum (adds s day) (carried_on j rows from t x) (λ r m. adds_none s day r (λ p. ne (sym (on_carried j rows from t x r counted m).day ∙ p.1))))
    (fitted_few (adds s day) (adds_few s day) t j.heads (filter (goes_to j from t day) rows))

of_few : (j : Problem) (rows : List Row) (s day t : ℕ) → list_all (λ x. nat_lt 0 x.count) rows ≡ true → (o : Option ℕ) → sum_by (adds s day) (option_map_or (λ from. carried_to j rows from t) o []) ≤ j.heads
of_few j rows s day t counted None = omega arith
of_few j rows s day t counted (Some from) = to_few j rows from s day t counted

few : (i j : Problem) (rows : List Row) (s day : ℕ) → list_all (λ x. nat_lt 0 x.count) rows ≡ true → heads_on (rota_of (carried i j rows)) s day ≤ j.heads
few i j rows s day counted =
    let sums : heads_on (rota_of (carried i j rows)) s day ≡ sum_by (adds s day) (carried i j rows) = heads_rows (carried i j rows) s day in
    let most : sum_by (adds s day) (carried i j rows) ≤ j.heads =
    one_block (adds s day) (carried_of i j rows) 0 (length (shift_list j)) s j.heads
    (λ x ne. zero_sum (adds s day) (carried_of i j rows x) (λ r m. adds_none s day r (λ p. ne (sym (shift_carried i j rows x r counted m).on.shift ∙ p.0))))
    (of_few j rows s day s counted (like_of i j s)) in
    subst (λ n. n ≤ j.heads) (sym sums) most

-- what is known of a carried row
own : (i j : Problem) (rows : List Row) (r : Row) → list_all (λ x. nat_lt 0 x.count) rows ≡ true → Has (carried i j rows) r → (t : ℕ) × IsCarriedTo j t r
own i j rows r counted m =
    let f = from_flat_map (carried_of i j rows) (below (length (shift_list j))) r m in
    (f.0, shift_carried i j rows f.0 r counted f.2)

legal_row : (j : Problem) (t : ℕ) (r : Row) → IsCarriedTo j t r → is_legal_duty j (duty_of r) ≡ true
legal_row j t r c =
    and_from (nat_lt r.day j.days) (is_list_of j r.shift r.breaks) (lt-ltb r.day j.days c.day)
    (subst (λ (s : ℕ). is_list_of j s r.breaks ≡ true) (sym c.on.shift) c.on.breaks)

pub carried_legal : (i j : Problem) (rows : List Row) → are_legal_rows i rows ≡ true → are_legal_rows j (carried i j rows) ≡ true
carried_legal i j rows h =
    let c = carried i j rows in
    let counted = (legal_rows_parts i rows h).counted in
    let sorted : Sorted IsBefore c = Sorted-flat_map (λ x y. x < y) IsBefore (carried_of i j rows) (below (length (shift_list j)))
    (λ t m. shift_sorted i j rows t counted (legal_sorted i rows h))
    (λ x y l a b p q.
    let g = (shift_carried i j rows x a counted p).on.shift in
    let k = (shift_carried i j rows y b counted q).on.shift in
    before_shift a b (omega (arith, l, g, k)))
    (Sorted-range 0 (length (shift_list j))) in
    let some : list_all (λ r. nat_lt 0 r.count) c ≡ true = all_from (λ r. nat_lt 0 r.count) c (λ r m. (own i j rows r counted m).1.on.some) in
    let legal : list_all (is_legal_duty j) (rota_of c) ≡ true =
    all_rows (is_legal_duty j) c some ∙ all_from (λ r. is_legal_duty j (duty_of r)) c (λ r m. let o = own i j rows r counted m in legal_row j o.0 r o.1) in
    let heads : list_all (λ d. nat_le (heads_on (rota_of c) d.shift d.day) j.heads) (rota_of c) ≡ true =
    all_from (λ d. nat_le (heads_on (rota_of c) d.shift d.day) j.heads) (rota_of c) (λ d m. le-leb (heads_on (rota_of c) d.shift d.day) j.heads (few i j rows d.shift d.day counted)) in
    and_from (list_all (λ p. is_before p.0 p.1) (zip c (drop 1 c)) && list_all (λ r. nat_lt 0 r.count) c) (is_legal_rota j (rota_of c))
    (and_from (list_all (λ p. is_before p.0 p.1) (zip c (drop 1 c))) (list_all (λ r. nat_lt 0 r.count) c) (adjacent is_before c sorted) some)
    (and_from (list_all (is_legal_duty j) (rota_of c)) (list_all (λ d. nat_le (heads_on (rota_of c) d.shift d.day) j.heads) (rota_of c)) legal heads)
