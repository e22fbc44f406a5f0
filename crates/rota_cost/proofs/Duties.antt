-- What one duty more changes.
use Rattle.rota_cost.proofs.Common.{◌≡◌, inl, inr, ℕ, ◌+◌, ◌<◌, Bool, true, false, cond, ◌||◌, ◌==◌, List, [], ◌∷◌, ◌++◌, length, refl, sym, ap, ◌∙◌, subst, arith, count_by, list_any, cases_Bool, cases_eq, ne_eqb, eqb-true, sum_by-cons, sum_by_push, count_by_same, count_by-below, any_by_count, any_from_count, same_tests, Duty, Problem, shift_list, below, same_duty, count_of, is_used, shifts_used, same_duty_decides, without, duties_of}
use Rattle.rota_cost.proofs.Coverage.{split_count}
use Rattle.rota_cost.proofs.Seen.{one_more, or_true, or_false}

-- duties that are others and one more, in whatever order
pub record IsWith (before : List Duty) (d : Duty) (after : List Duty) : Type 0 where
  pub each : (p : Duty → Bool) → count_by p after ≡ count_by p before + cond (p d) 1 0

pub with_pushed : (duties : List Duty) (d : Duty) → IsWith duties d (duties ++ d ∷ [])
with_pushed duties d = record { each = λ p. sum_by_push (λ x. cond (p x) 1 0) duties d }

pub with_removed : (duties : List Duty) (d : Duty) → 0 < count_of duties d → IsWith (without d duties) d duties
with_removed [] d there = absurd (omega arith)
with_removed (x ∷ rest) d there = elim (cases_Bool (same_duty d x)) [
  | inl same ↦
      let e : d ≡ x = (same_duty_decides d x).0 same in
      let out : without d (x ∷ rest) ≡ rest = ap (λ b. cond b rest (x ∷ without d rest)) same in
      record {
        each = λ p.
            let a : count_by p (x ∷ rest) ≡ cond (p x) 1 0 + count_by p rest = sum_by-cons (λ y. cond (p y) 1 0) x rest in
            let b : ◌≡◌ {A = ℕ} (cond (p x) 1 0) (cond (p d) 1 0) = ap (λ (y : Duty). cond (p y) 1 0) (sym e) in
            let k : count_by p (without d (x ∷ rest)) ≡ count_by p rest = ap (count_by p) out in
            omega arith;
      }
  | inr other ↦
      let out : without d (x ∷ rest) ≡ x ∷ without d rest = ap (λ b. cond b rest (x ∷ without d rest)) other in
      let here : count_of (x ∷ rest) d ≡ cond (same_duty d x) 1 0 + count_of rest d = sum_by-cons (λ y. cond (same_duty d y) 1 0) x rest in
      let none : ◌≡◌ {A = ℕ} (cond (same_duty d x) 1 0) 0 = ap (λ b. cond b 1 0) other in
      let more = with_removed rest d (omega arith) in
      record {
        each = λ p.
            let a : count_by p (x ∷ rest) ≡ cond (p x) 1 0 + count_by p rest = sum_by-cons (λ y. cond (p y) 1 0) x rest in
            let b : count_by p (x ∷ without d rest) ≡ cond (p x) 1 0 + count_by p (without d rest) = sum_by-cons (λ y. cond (p y) 1 0) x (without d rest) in
            let k : count_by p (without d (x ∷ rest)) ≡ count_by p (x ∷ without d rest) = ap (count_by p) out in
            let m : count_by p rest ≡ count_by p (without d rest) + cond (p d) 1 0 = more.each p in
            omega arith;
      }
]

-- their number
pub with_length : (before : List Duty) (d : Duty) (after : List Duty) → IsWith before d after → length after ≡ length before + 1
with_length before d after h =
    let a : count_by (λ x. true) after ≡ count_by (λ x. true) before + 1 = h.each (λ x. true) in
    let b : count_by (λ x. true) after ≡ length after = all after in
    let c : count_by (λ x. true) before ≡ length before = all before in
    omega arith
  where
    all : (xs : List Duty) → count_by (λ x. true) xs ≡ length xs
    all [] = refl
    all (x ∷ xs) = let e : count_by (λ x. true) (x ∷ xs) ≡ 1 + count_by (λ x. true) xs = sum_by-cons (λ (y : Duty). 1) x xs in omega (arith, all xs)

-- the shifts that are used with one duty more
with_used : (before : List Duty) (d : Duty) (after : List Duty) → IsWith before d after → (s : ℕ) → is_used after s ≡ (is_used before s || (d.shift == s))
with_used before d after h s =
    let p : Duty → Bool = λ x. x.shift == s in
    let e : count_by p after ≡ count_by p before + cond (p d) 1 0 = h.each p in
    elim (cases_Bool (p d)) [
      | inl here ↦
          let one : ◌≡◌ {A = ℕ} (cond (p d) 1 0) 1 = ap (λ b. cond b 1 0) here in
          any_from_count p after (omega arith) ∙ sym (ap (λ b. list_any p before || b) here ∙ or_true (list_any p before))
      | inr off ↦
          let none : ◌≡◌ {A = ℕ} (cond (p d) 1 0) 0 = ap (λ b. cond b 1 0) off in
          same_tests (list_any p after) (list_any p before)
          (λ a. any_from_count p before (let z : 0 < count_by p after = any_by_count p after a in omega arith))
          (λ b. any_from_count p after (let z : 0 < count_by p before = any_by_count p before b in omega arith))
          ∙ sym (ap (λ b. list_any p before || b) off ∙ or_false (list_any p before))
    ]

-- a duty of a shift that is used already uses no further shift
pub used_same : (i : Problem) (before : List Duty) (d : Duty) (after : List Duty) → IsWith before d after → 0 < duties_of before d.shift → shifts_used i after ≡ shifts_used i before
used_same i before d after h some =
    count_by_same (is_used after) (is_used before) (below (length (shift_list i))) (λ s m.
    with_used before d after h s
    ∙ elim (cases_eq d.shift s) [
      | inl e ↦
          let there : is_used before s ≡ true = subst (λ (k : ℕ). is_used before k ≡ true) e (any_from_count (λ x. x.shift == d.shift) before some) in
          ap (λ b. b || (d.shift == s)) there ∙ sym there
      | inr ne ↦ ap (λ b. is_used before s || b) (ne_eqb d.shift s ne) ∙ or_false (is_used before s)
    ])

-- and one of another shift uses one more
pub used_more : (i : Problem) (before : List Duty) (d : Duty) (after : List Duty) → IsWith before d after → d.shift < length (shift_list i) → duties_of before d.shift ≡ 0 → shifts_used i after ≡ shifts_used i before + 1
used_more i before d after h known none =
    let n = length (shift_list i) in
    let unused : is_used before d.shift ≡ false = elim (cases_Bool (is_used before d.shift)) [
      | inl e ↦ let some : 0 < duties_of before d.shift = any_by_count (λ x. x.shift == d.shift) before e in absurd (omega arith)
      | inr e ↦ e
    ] in
    let split : shifts_used i after ≡ shifts_used i before + count_by (λ s. d.shift == s) (below n) =
    split_count (is_used after) (is_used before) (λ s. d.shift == s) (below n) (λ s.
    ap (λ b. cond b 1 0) (with_used before d after h s)
    ∙ one_more (is_used before s) (d.shift == s) (λ e. ap (is_used before) (sym (eqb-true d.shift s e)) ∙ unused)) in
    let once : count_by (λ s. d.shift == s) (below n) ≡ 1 = count_by-below d.shift n known in
    omega arith
