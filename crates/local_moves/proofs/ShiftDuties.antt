-- The duties of a shift, day by day.
use Rattle.local_moves.proofs.Common.{◌≡◌, ◌⊎◌, inl, inr, ℕ, ◌+◌, ◌<◌, Bool, true, false, cond, ◌&&◌, ◌==◌, nat_lt, List, refl, ap, ◌∙◌, arith, eq-eqb, count_by, cases_lt, cases_eq, ne_eqb, lt-ltb, le-ltb, count_by_same, count_by_none, Duty, Problem, heads_on, is_legal_rota, legal_duties, duties_of, split_count}

-- the duties of a shift on the days below one
abbrev pub duties_before : List Duty → ℕ → ℕ → ℕ
duties_before rota s day = count_by (λ d. (d.shift == s) && nat_lt d.day day) rota

and_false : (b : Bool) → (b && false) ≡ false
and_false true = refl
and_false false = refl

and_true : (b : Bool) → (b && true) ≡ b
and_true true = refl
and_true false = refl

pub before_none : (rota : List Duty) (s : ℕ) → duties_before rota s 0 ≡ 0
before_none rota s = count_by_none (λ d. (d.shift == s) && nat_lt d.day 0) rota (λ d m. ap (λ b. (d.shift == s) && b) (le-ltb d.day 0 (omega arith)) ∙ and_false (d.shift == s))

pub before_more_days : (rota : List Duty) (s day : ℕ) → duties_before rota s (day + 1) ≡ duties_before rota s day + heads_on rota s day
before_more_days rota s day =
    split_count (λ d. (d.shift == s) && nat_lt d.day (day + 1)) (λ d. (d.shift == s) && nat_lt d.day day) (λ d. (d.shift == s) && (d.day == day)) rota (λ d. one (d.shift == s) d.day)
  where
    one : (b : Bool) (n : ℕ) → ◌≡◌ {A = ℕ} (cond (b && nat_lt n (day + 1)) 1 0) (cond (b && nat_lt n day) 1 0 + cond (b && (n == day)) 1 0)
    one false n = omega arith
    one true n = elim (cases_eq n day) [
      | inl e ↦
          let x : ◌≡◌ {A = ℕ} (cond (nat_lt n (day + 1)) 1 0) 1 = ap (λ b. cond b 1 0) (lt-ltb n (day + 1) (omega arith)) in
          let y : ◌≡◌ {A = ℕ} (cond (nat_lt n day) 1 0) 0 = ap (λ b. cond b 1 0) (le-ltb n day (omega arith)) in
          let z : ◌≡◌ {A = ℕ} (cond (n == day) 1 0) 1 = ap (λ b. cond b 1 0) (eq-eqb n day e) in
          omega (arith, x, y, z)
      | inr ne ↦
          let z : ◌≡◌ {A = ℕ} (cond (n == day) 1 0) 0 = ap (λ b. cond b 1 0) (ne_eqb n day ne) in
          elim (cases_lt n day) [
            | inl l ↦
                let x : ◌≡◌ {A = ℕ} (cond (nat_lt n (day + 1)) 1 0) 1 = ap (λ b. cond b 1 0) (lt-ltb n (day + 1) (omega arith)) in
                let y : ◌≡◌ {A = ℕ} (cond (nat_lt n day) 1 0) 1 = ap (λ b. cond b 1 0) (lt-ltb n day l) in
                omega (arith, x, y, z)
            | inr g ↦
                let x : ◌≡◌ {A = ℕ} (cond (nat_lt n (day + 1)) 1 0) 0 = ap (λ b. cond b 1 0) (le-ltb n (day + 1) (omega (arith, ne))) in
                let y : ◌≡◌ {A = ℕ} (cond (nat_lt n day) 1 0) 0 = ap (λ b. cond b 1 0) (le-ltb n day g) in
                omega (arith, x, y, z)
          ]
    ]

pub before_all : (i : Problem) (rota : List Duty) (s : ℕ) → is_legal_rota i rota ≡ true → duties_before rota s i.days ≡ duties_of rota s
before_all i rota s legal = count_by_same (λ d. (d.shift == s) && nat_lt d.day i.days) (λ d. d.shift == s) rota (λ d m. ap (λ b. (d.shift == s) && b) (lt-ltb d.day i.days (legal_duties i rota legal d m).day) ∙ and_true (d.shift == s))
