-- How many of the numbers below another pass a test.
use Rattle.search_core.proofs.Common.{◌≡◌, ℕ, zero, suc, ◌+◌, ◌<◌, ◌≤◌, Bool, true, false, cond, refl, subst, arith, inl, inr, cases_eq, cases_lt}

-- 1 for a test that is passed
abbrev pub tally : Bool → ℕ
tally t = cond t 1 0

abbrev pub passing : (ℕ → Bool) → ℕ → ℕ
passing p zero = 0
passing p (suc n) = passing p n + tally (p n)

one_more : (x y : Bool) → (x ≡ true → y ≡ true) → tally x ≤ tally y
one_more false y h = omega arith
one_more true true h = omega arith
one_more true false h = absurd (cc (h refl))

no_count : (t : Bool) → t ≡ false → tally t ≡ 0
no_count true h = absurd (cc (h))
no_count false h = refl

one_count : (t : Bool) → t ≡ true → tally t ≡ 1
one_count true h = refl
one_count false h = absurd (cc (h))

pub passing_grows : (p q : ℕ → Bool) (n : ℕ) → ((j : ℕ) → p j ≡ true → q j ≡ true) → passing p n ≤ passing q n
passing_grows p q zero h = let a : passing p zero ≡ 0 = refl in omega arith
passing_grows p q (suc n) h =
    let a : passing p n ≤ passing q n = passing_grows p q n h in
    let b : tally (p n) ≤ tally (q n) = one_more (p n) (q n) (h n) in
    let x : passing p (suc n) ≡ passing p n + tally (p n) = refl in
    let y : passing q (suc n) ≡ passing q n + tally (q n) = refl in
    omega arith

cases_below : (k n : ℕ) → k < suc n → (k ≡ n → ⊥) → k < n
cases_below k n low other =
    elim (cases_lt k n) [ inl less ↦ less | inr more ↦ absurd (other (let e : k ≡ n = omega arith in e)) ]

-- one that passes the other test alone
pub passing_more : (p q : ℕ → Bool) (n k : ℕ) → ((j : ℕ) → p j ≡ true → q j ≡ true) → k < n → p k ≡ false → q k ≡ true → passing p n + 1 ≤ passing q n
passing_more p q zero k h low miss hit = absurd (omega arith)
passing_more p q (suc n) k h low miss hit =
    elim (cases_eq k n) [
      | inl same ↦
          let a : passing p n ≤ passing q n = passing_grows p q n h in
          let no_p : tally (p n) ≡ 0 = no_count (p n) (subst (λ j. p j ≡ false) same miss) in
          let one_q : tally (q n) ≡ 1 = one_count (q n) (subst (λ j. q j ≡ true) same hit) in
          let u : passing p (suc n) ≡ passing p n + tally (p n) = refl in
          let v : passing q (suc n) ≡ passing q n + tally (q n) = refl in
          omega arith
      | inr other ↦
          let less : k < n = cases_below k n low other in
          let a : passing p n + 1 ≤ passing q n = passing_more p q n k h less miss hit in
          let b : tally (p n) ≤ tally (q n) = one_more (p n) (q n) (h n) in
          let u : passing p (suc n) ≡ passing p n + tally (p n) = refl in
          let v : passing q (suc n) ≡ passing q n + tally (q n) = refl in
          omega arith
    ]

pub passing_most : (p : ℕ → Bool) (n : ℕ) → passing p n ≤ n
passing_most p zero = let a : passing p zero ≡ 0 = refl in omega arith
passing_most p (suc n) =
    let a : passing p n ≤ n = passing_most p n in
    let x : passing p (suc n) ≡ passing p n + tally (p n) = refl in
    let b : tally (p n) ≤ 1 = elim (p n) as (λ t. tally t ≤ 1) [ true ↦ omega arith | false ↦ omega arith ] in
    omega arith

-- where one doesn't pass
pub passing_less : (p : ℕ → Bool) (n k : ℕ) → k < n → p k ≡ false → passing p n < n
passing_less p n k low miss =
    let a : passing p n + 1 ≤ passing (λ j. true) n = passing_more p (λ j. true) n k (λ j h. refl) low miss refl in
    let b : passing (λ j. true) n ≤ n = passing_most (λ j. true) n in
    omega arith
