-- Tests and sums along numbers from one on.
use Rattle.instance_warnings.proofs.Common.{◌≡◌, inl, inr, ℕ, suc, ◌+◌, ◌-◌, ◌<◌, ◌≤◌, max, Bool, true, false, cond, List, [], ◌∷◌, ◌++◌, filter, fold, refl, sym, ap, ◌∙◌, arith, sum_by, list_any, range_with_len, cases_Bool, false≢true, fold-append, sum_by-cons, Has, any_some, any_at, Has-range, from_range, below_next, range_next, below}

-- no element passes a test that each of them fails
pub any_fails : {X : Type 0} (p : X → Bool) (xs : List X) → ((x : X) → Has xs x → p x ≡ false) → list_any p xs ≡ false
any_fails p xs f =
    elim (cases_Bool (list_any p xs)) [
      | inl t ↦ let r = any_some p xs t in absurd (false≢true (sym (f r.0 r.1) ∙ r.2))
      | inr e ↦ e
    ]

-- no number of a range passes a test that each of them fails
pub none_between : (p : ℕ → Bool) (low n : ℕ) → ((k : ℕ) → low ≤ k → k < low + n → p k ≡ false) → list_any p (range_with_len low n) ≡ false
none_between p low n f = any_fails p (range_with_len low n) (λ k h. let r = from_range low n k h in f k r.0 r.1)

-- a number of a range that passes a test
pub some_between : (p : ℕ → Bool) (low n k : ℕ) → low ≤ k → k < low + n → p k ≡ true → list_any p (range_with_len low n) ≡ true
some_between p low n k a b e = any_at p (range_with_len low n) k (Has-range low n k a b) e

filter_push : (p : ℕ → Bool) (xs : List ℕ) (x : ℕ) → filter p (xs ++ x ∷ []) ≡ filter p xs ++ cond (p x) (x ∷ []) []
filter_push p [] x = elim (cases_Bool (p x)) [ inl t ↦ rw t refl | inr f ↦ rw f refl ]
filter_push p (y ∷ xs) x =
    elim (cases_Bool (p y)) [ inl t ↦ rw t (ap (λ zs. y ∷ zs) (filter_push p xs x)) | inr f ↦ rw f (filter_push p xs x) ]

-- the numbers below one more that pass a test
pub filter_next : (p : ℕ → Bool) (n : ℕ) → filter p (below (n + 1)) ≡ filter p (below n) ++ cond (p n) (n ∷ []) []
filter_next p n = ap (filter p) (below_next n) ∙ filter_push p (below n) n

-- the sum over the elements that pass a test isn't more than that of greater terms over all
pub sum_of_passing : (f g : ℕ → ℕ) (p : ℕ → Bool) (xs : List ℕ) → ((x : ℕ) → Has xs x → p x ≡ true → f x ≤ g x) → sum_by f (filter p xs) ≤ sum_by g xs
sum_of_passing f g p [] h = omega arith
sum_of_passing f g p (x ∷ xs) h =
    let rest : sum_by f (filter p xs) ≤ sum_by g xs = sum_of_passing f g p xs (λ y m e. h y (inr m) e) in
    let all : sum_by g (x ∷ xs) ≡ g x + sum_by g xs = sum_by-cons g x xs in
    elim (cases_Bool (p x)) [
      | inl t ↦
          let here : f x ≤ g x = h x (inl refl) t in
          let one : sum_by f (x ∷ filter p xs) ≡ f x + sum_by f (filter p xs) = sum_by-cons f x (filter p xs) in
          rw t (omega arith)
      | inr e ↦ rw e (omega arith)
    ]

-- the greatest number of one element more of a range
pub greatest_more : (f : ℕ → ℕ) (low at : ℕ) → low ≤ at → fold (λ most s. max most (f s)) 0 (range_with_len low (at + 1 - low)) ≡ max (fold (λ most s. max most (f s)) 0 (range_with_len low (at - low))) (f at)
greatest_more f low at above =
    let one : at + 1 - low ≡ suc (at - low) = omega arith in
    let two : low + (at - low) ≡ at = omega arith in
    let more : range_with_len low (at + 1 - low) ≡ range_with_len low (at - low) ++ at ∷ [] =
    ap (range_with_len low) one ∙ range_next low (at - low) ∙ ap (λ (k : ℕ). range_with_len low (at - low) ++ k ∷ []) two in
    ap (fold (λ most s. max most (f s)) 0) more ∙ fold-append (λ most s. max most (f s)) 0 (range_with_len low (at - low)) (at ∷ [])
