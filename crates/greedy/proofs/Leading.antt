-- The first number of greatest value, found one number after another.
use Rattle.greedy.proofs.Common.{◌≡◌, inl, inr, ℕ, zero, suc, ◌+◌, ◌<◌, ◌≤◌, ℤ, pos, ◌≤ℤ◌, ◌<ℤ◌, Bool, true, false, cond, ◌&&◌, not, List, [], ◌∷◌, refl, sym, ap, ◌∙◌, arith, Option, Some, None, int_lt, list_any, find, range_with_len, ints, and_from, cases_Bool, cases_eq, Has, Has-below, from_below, any_at, any_some, below, first_greatest, Leads}

pub lt_from : (a b : ℤ) → a <ℤ b → int_lt a b ≡ true
lt_from a b h = grind (arith, ints)

pub lt_not : (a b : ℤ) → b ≤ℤ a → int_lt a b ≡ false
lt_not a b h = grind (arith, ints)

lt_is : (a b : ℤ) → int_lt a b ≡ true → a <ℤ b
lt_is a b h = grind (arith, ints)

pub find_none : {X : Type 0} (p : X → Bool) (xs : List X) → ((x : X) → Has xs x → p x ≡ false) → find p xs ≡ None
find_none p [] h = refl
find_none p (x ∷ xs) h = ap (λ b. cond b (Some x) (find p xs)) (h x (inl refl)) ∙ find_none p xs (λ y m. h y (inr m))

find_first : (p : ℕ → Bool) (a n b : ℕ) → a ≤ b → b < a + n → p b ≡ true → ((j : ℕ) → a ≤ j → j < b → p j ≡ false) → find p (range_with_len a n) ≡ Some b
find_first p a zero b low high passes fails = absurd (omega arith)
find_first p a (suc n) b low high passes fails =
    elim (cases_eq a b) [
      | inl e ↦ ap (λ c. cond c (Some a) (find p (range_with_len (a + 1) n))) (ap p e ∙ passes) ∙ ap Some e
      | inr ne ↦
          let less : a < b = omega arith in
          ap (λ c. cond c (Some a) (find p (range_with_len (a + 1) n))) (fails a (omega arith) less)
          ∙ find_first p (a + 1) n b (omega arith) (omega arith) passes (λ j l m. fails j (omega arith) m)
    ]

-- what leads all numbers is the first of greatest value
pub leads_all : (f : ℕ → ℤ) (n : ℕ) (best : Option ℕ) (top : ℤ) → Leads f n best top → best ≡ first_greatest f n
leads_all f n None top h =
    sym (find_none (λ s. int_lt (pos 0) (f s) && not (list_any (λ k. int_lt (f s) (f k)) (below n))) (below n) (λ s m.
    let zero : top ≡ pos 0 = h.first in
    let most : f s ≤ℤ top = h.bounds s (from_below n s m) in
    ap (λ b. b && not (list_any (λ k. int_lt (f s) (f k)) (below n))) (lt_not (pos 0) (f s) (omega (arith, ints)))))
leads_all f n (Some b) top h =
    let p = h.first in
    let in_range : b < n = p.0 in
    let best : f b ≡ top = p.1 in
    let some : pos 0 <ℤ top = p.2 in
    sym (find_first (λ s. int_lt (pos 0) (f s) && not (list_any (λ k. int_lt (f s) (f k)) (below n))) 0 n b (omega arith) (omega arith)
    (and_from (int_lt (pos 0) (f b)) (not (list_any (λ k. int_lt (f b) (f k)) (below n))) (lt_from (pos 0) (f b) (omega (arith, ints)))
    (elim (cases_Bool (list_any (λ k. int_lt (f b) (f k)) (below n))) [
      | inl t ↦
          let k = any_some (λ k. int_lt (f b) (f k)) (below n) t in
          let more : f b <ℤ f k.0 = lt_is (f b) (f k.0) k.2 in
          let most : f k.0 ≤ℤ top = h.bounds k.0 (from_below n k.0 k.1) in
          absurd (omega (arith, ints))
      | inr e ↦ ap not e
    ]))
    (λ j l m.
    let less : f j <ℤ top = p.3 j m in
    ap (λ c. int_lt (pos 0) (f j) && not c) (any_at (λ k. int_lt (f j) (f k)) (below n) b (Has-below n b in_range) (lt_from (f j) (f b) (omega (arith, ints)))) ∙ and_no (int_lt (pos 0) (f j))))
  where
    and_no : (b : Bool) → (b && false) ≡ false
    and_no true = refl
    and_no false = refl
