-- The numbers of one day, of rows with a number for each of some days.
use Rattle.break_layers.proofs.Common.{◌≡◌, inl, inr, ℕ, ◌+◌, ◌<◌, ◌≤◌, ℤ, pos, List, length, get_or, map, sym, ap, ◌∙◌, subst, arith, set, cases_lt, get_or-map, get_or-set_same, get_or-set_other, get_or_past, length-map, map-set, NOTHING, number_in, sum_at}

-- the number of a day within a row
pub number_of_day : {N : Type 0} (on : N → ℤ) (row : List N) (k : ℕ) (d : N) → k < length row → number_in (map on row) k ≡ on (get_or row k d)
number_of_day on row k d inside = get_or-map on row k d NOTHING inside

-- behind the end of a row is nothing
pub number_past : {N : Type 0} (on : N → ℤ) (row : List N) (k : ℕ) → length row ≤ k → number_in (map on row) k ≡ NOTHING
number_past on row k past = get_or_past (map on row) k NOTHING (omega (arith, length-map row on, past))

-- a row where one place was set
pub set_same : {N : Type 0} (on : N → ℤ) (row : List N) (k : ℕ) (x : N) → k < length row → number_in (map on (set row k x)) k ≡ on x
set_same on row k x inside = ap (λ (l : List ℤ). number_in l k) (map-set on row k x) ∙ get_or-set_same (map on row) k (on x) NOTHING (omega (arith, length-map row on, inside))

pub set_other : {N : Type 0} (on : N → ℤ) (row : List N) (k j : ℕ) (x : N) → (j ≡ k → ⊥) → number_in (map on (set row k x)) j ≡ number_in (map on row) j
set_other on row k j x other = ap (λ (l : List ℤ). number_in l j) (map-set on row k x) ∙ get_or-set_other (map on row) k j (on x) NOTHING other

-- one place more of a row that is set from the front on
pub row_more : {N : Type 0} (on : N → ℤ) (row : List N) (k : ℕ) (x : N) (P : ℕ → ℤ → Type 0) → k < length row → ((j : ℕ) → j < k → P j (number_in (map on row) j)) → P k (on x)
    → (j : ℕ) → j < k + 1 → P j (number_in (map on (set row k x)) j)
row_more on row k x P inside before here j less = elim (cases_lt j k) [
  | inl l ↦ subst (P j) (sym (set_other on row k j x (λ e. omega (arith, l)))) (before j l)
  | inr g ↦
      let same : k ≡ j = omega arith in
      subst (λ i. P i (number_in (map on (set row k x)) i)) same (subst (P k) (sym (set_same on row k x inside)) here)
]

pub row_left : {N : Type 0} (on : N → ℤ) (row : List N) (k : ℕ) (x : N) (f : ℕ → ℤ) → ((j : ℕ) → k ≤ j → number_in (map on row) j ≡ f j) → (j : ℕ) → k + 1 ≤ j → number_in (map on (set row k x)) j ≡ f j
row_left on row k x f left j more = set_other on row k j x (λ e. omega (arith, more)) ∙ left j (omega (arith, more))

-- one day more of a lane that is set from the front on
pub lane_more : (P : ℕ → ℤ → Type 0) (lane : List ℤ) (k : ℕ) (x : ℤ) → k < length lane → ((j : ℕ) → j < k → P j (sum_at lane j)) → P k x → (j : ℕ) → j < k + 1 → P j (sum_at (set lane k x) j)
lane_more P lane k x inside before here j less = elim (cases_lt j k) [
  | inl l ↦ subst (P j) (sym (get_or-set_other lane k j x (pos 0) (λ e. omega (arith, l)))) (before j l)
  | inr g ↦
      let same : k ≡ j = omega arith in
      subst (λ i. P i (sum_at (set lane k x) i)) same (subst (P k) (sym (get_or-set_same lane k x (pos 0) inside)) here)
]
