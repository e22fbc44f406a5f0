-- Which shifts the rows so far have, and how many.
use Rattle.rota_cost.proofs.Common.{◌≡◌, inl, inr, ℕ, ◌+◌, ◌<◌, ◌≤◌, Bool, true, false, cond, ◌||◌, ◌==◌, List, [], ◌∷◌, ◌++◌, length, take, get_or, set, replicate, refl, sym, ap, ◌∙◌, subst, arith, count_by, eq-eqb, length-set, get_or-set_same, get_or-set_other, list_any, cases_eq, ne_eqb, eqb-true, get_or-replicate, length-replicate, take_all, take_more, list_any-append, count_by_none, count_by_same, count_by-below, Row, Problem, shift_list, below, rota_of, shifts_used, are_legal_rows, is_used, any_rows, IsValid, count_by-le-length, length-range_with_len}
use Rattle.rota_cost.proofs.Counting.{legal_rows_parts, RowAt}
use Rattle.rota_cost.proofs.Coverage.{split_count}

-- whether one of the first k rows is of a shift
abbrev pub has_shift : List Row → ℕ → ℕ → Bool
has_shift rows k s = list_any (λ r. r.shift == s) (take k rows)

pub record IsSeen (i : Problem) (rows : List Row) (k : ℕ) (flags : List Bool) (count : ℕ) : Type 0 where
  pub seen : (s : ℕ) → s < 1024 → get_or flags s false ≡ has_shift rows k s
  pub size : length flags ≡ 1024
  pub used : count ≡ count_by (has_shift rows k) (below (length (shift_list i)))

pub seen_none : (i : Problem) (rows : List Row) (seen : List Bool) → seen ≡ replicate 1024 false → IsSeen i rows 0 seen 0
seen_none i rows seen e = record {
  seen = λ s small. ap (λ (xs : List Bool). get_or xs s false) e ∙ get_or-replicate 1024 s false false small;
  size = ap (λ (xs : List Bool). length xs) e ∙ length-replicate 1024 false;
  used = sym (count_by_none (has_shift rows 0) (below (length (shift_list i))) (λ s m. refl));
}

pub or_false : (b : Bool) → (b || false) ≡ b
or_false true = refl
or_false false = refl

pub or_true : (b : Bool) → (b || true) ≡ true
or_true true = refl
or_true false = refl

-- one more row
more : (rows : List Row) (k : ℕ) (x : Row) → k < length rows → x ≡ get_or rows k x → (s : ℕ) → has_shift rows (k + 1) s ≡ (has_shift rows k s || (x.shift == s))
more rows k x small at s =
    let p : Row → Bool = λ r. r.shift == s in
    let t : take (k + 1) rows ≡ take k rows ++ get_or rows k x ∷ [] = take_more rows k x small in
    ap (list_any p) t ∙ list_any-append p (take k rows) (get_or rows k x ∷ []) ∙ ap (λ b. has_shift rows k s || b) (or_false (p (get_or rows k x)) ∙ ap p (sym at))

pub seen_skip : (i : Problem) (rows : List Row) (k : ℕ) (seen : List Bool) (used : ℕ) (x : Row) → k < length rows → x ≡ get_or rows k x → x.shift < 1024 → get_or seen x.shift false ≡ true → IsSeen i rows k seen used → IsSeen i rows (k + 1) seen used
seen_skip i rows k seen used x small at low there h =
    let same : (s : ℕ) → has_shift rows (k + 1) s ≡ has_shift rows k s = λ s.
    more rows k x small at s
    ∙ elim (cases_eq x.shift s) [
      | inl e ↦
          let has : has_shift rows k s ≡ true = ap (has_shift rows k) (sym e) ∙ sym (h.seen x.shift low) ∙ there in
          ap (λ b. b || (x.shift == s)) has ∙ sym has
      | inr ne ↦ ap (λ b. has_shift rows k s || b) (ne_eqb x.shift s ne) ∙ or_false _
    ] in
    record {
      seen = λ s l. h.seen s l ∙ sym (same s);
      size = h.size;
      used = h.used ∙ count_by_same (has_shift rows k) (has_shift rows (k + 1)) (below (length (shift_list i))) (λ s m. sym (same s));
    }

pub one_more : (a b : Bool) → (b ≡ true → a ≡ false) → ◌≡◌ {A = ℕ} (cond (a || b) 1 0) (cond a 1 0 + cond b 1 0)
one_more true true h = let z : true ≡ false = h refl in absurd (cc)
one_more true false h = omega arith
one_more false true h = omega arith
one_more false false h = omega arith

pub seen_more : (i : Problem) (rows : List Row) (k : ℕ) (seen : List Bool) (used : ℕ) (x : Row) → k < length rows → x ≡ get_or rows k x → x.shift < length (shift_list i) → x.shift < 1024 → get_or seen x.shift false ≡ false → IsSeen i rows k seen used → IsSeen i rows (k + 1) (set seen x.shift true) (used + 1)
seen_more i rows k seen used x small at known low there h =
    let n = length (shift_list i) in
    let none : has_shift rows k x.shift ≡ false = sym (h.seen x.shift low) ∙ there in
    let room : x.shift < length seen = omega (arith, h.size) in
    let as_or : count_by (has_shift rows (k + 1)) (below n) ≡ count_by (λ s. has_shift rows k s || (x.shift == s)) (below n) = count_by_same (has_shift rows (k + 1)) (λ s. has_shift rows k s || (x.shift == s)) (below n) (λ s m. more rows k x small at s) in
    let split : count_by (λ s. has_shift rows k s || (x.shift == s)) (below n) ≡ count_by (has_shift rows k) (below n) + count_by (λ s. x.shift == s) (below n) =
    split_count (λ s. has_shift rows k s || (x.shift == s)) (has_shift rows k) (λ s. x.shift == s) (below n) (λ s. one_more (has_shift rows k s) (x.shift == s) (λ e. ap (has_shift rows k) (sym (eqb-true x.shift s e)) ∙ none)) in
    let once : count_by (λ s. x.shift == s) (below n) ≡ 1 = count_by-below x.shift n known in
    let before : used ≡ count_by (has_shift rows k) (below n) = h.used in
    record {
      seen = λ s l.
          elim (cases_eq x.shift s) [
            | inl e ↦
                let here : get_or (set seen x.shift true) x.shift false ≡ has_shift rows (k + 1) x.shift =
                get_or-set_same seen x.shift true false room
                ∙ sym (more rows k x small at x.shift ∙ ap (λ b. has_shift rows k x.shift || b) (eq-eqb x.shift x.shift refl) ∙ or_true _) in
                subst (λ (j : ℕ). get_or (set seen x.shift true) j false ≡ has_shift rows (k + 1) j) e here
            | inr ne ↦
                get_or-set_other seen x.shift s true false (λ e. ne (sym e)) ∙ h.seen s l
                ∙ sym (more rows k x small at s ∙ ap (λ b. has_shift rows k s || b) (ne_eqb x.shift s ne) ∙ or_false _)
          ];
      size = length-set seen x.shift true ∙ h.size;
      used = omega arith;
    }

-- after all rows the shifts are counted
pub seen_all : (i : Problem) (rows : List Row) (k : ℕ) (seen : List Bool) (used : ℕ) → are_legal_rows i rows ≡ true → length rows ≤ k → IsSeen i rows k seen used → used ≡ shifts_used i (rota_of rows)
seen_all i rows k seen used legal long h =
    h.used ∙ count_by_same (has_shift rows k) (is_used (rota_of rows)) (below (length (shift_list i))) (λ s m.
    ap (list_any (λ r. r.shift == s)) (take_all k rows long) ∙ sym (any_rows (λ d. d.shift == s) rows (legal_rows_parts i rows legal).counted))

-- the same, where the shift is read as another number
pub skipped : (i : Problem) (rows : List Row) (k : ℕ) (seen : List Bool) (used : ℕ) (x : Row) (j : ℕ) → RowAt i rows k x → IsValid i → j ≡ x.shift → get_or seen j false ≡ true → IsSeen i rows k seen used → IsSeen i rows (k + 1) seen used
skipped i rows k seen used x j r valid e there h =
    let few : length (shift_list i) ≤ 1024 = valid.shifts in
    let known : x.shift < length (shift_list i) = r.shift in
    let low : x.shift < 1024 = omega arith in
    seen_skip i rows k seen used x r.small r.at low (ap (λ (s : ℕ). get_or seen s false) (sym e) ∙ there) h

pub marked : (i : Problem) (rows : List Row) (k : ℕ) (seen : List Bool) (used : ℕ) (x : Row) (j : ℕ) → RowAt i rows k x → IsValid i → j ≡ x.shift → get_or seen j false ≡ false → IsSeen i rows k seen used → IsSeen i rows (k + 1) (set seen j true) (used + 1)
marked i rows k seen used x j r valid e there h =
    let few : length (shift_list i) ≤ 1024 = valid.shifts in
    let known : x.shift < length (shift_list i) = r.shift in
    let low : x.shift < 1024 = omega arith in
    subst (λ (s : ℕ). IsSeen i rows (k + 1) (set seen s true) (used + 1)) (sym e)
    (seen_more i rows k seen used x r.small r.at known low (ap (λ (s : ℕ). get_or seen s false) (sym e) ∙ there) h)

pub few_used : (i : Problem) (rows : List Row) (k : ℕ) (seen : List Bool) (used : ℕ) → IsValid i → IsSeen i rows k seen used → used ≤ 1024
few_used i rows k seen used valid h =
    let a : count_by (has_shift rows k) (below (length (shift_list i))) ≤ length (below (length (shift_list i))) = count_by-le-length (has_shift rows k) (below (length (shift_list i))) in
    let b : length (below (length (shift_list i))) ≡ length (shift_list i) = length-range_with_len 0 (length (shift_list i)) in
    let c : length (shift_list i) ≤ 1024 = valid.shifts in
    let d : used ≡ count_by (has_shift rows k) (below (length (shift_list i))) = h.used in
    omega arith
