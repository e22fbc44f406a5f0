-- One break more: the best rest so far, or the best one that begins with this break.
use Rattle.pricing.proofs.Common.{◌≡◌, inl, inr, ℤ, ◌+ℤ◌, ◌≤ℤ◌, true, false, ◌&&◌, List, [], ◌∷◌, sym, ◌∙◌, arith, ints, and_parts, or_cases, or_left, false≢true, cases_Bool, Break, same_break, is_less_list, is_less_break, less_apart, IsBestRest}

-- where a list is less than another, the other isn't less than it
pub not_less : (xs ys : List Break) → is_less_list xs ys ≡ true → is_less_list ys xs ≡ false
not_less xs ys h = elim (cases_Bool (is_less_list ys xs)) [ inl t ↦ absurd (less_apart xs ys h t) | inr f ↦ f ]

-- behind one break the order is that of the rests
pub less_rests : (b : Break) (xs ys : List Break) → is_less_list xs ys ≡ false → is_less_list (b ∷ xs) (b ∷ ys) ≡ false
less_rests b xs ys h =
    elim (cases_Bool (is_less_list (b ∷ xs) (b ∷ ys))) [
      | inl t ↦ elim (or_cases (is_less_break b b) (same_break b b && is_less_list xs ys) t) [
        | inl l ↦ absurd (less_apart (b ∷ []) (b ∷ []) (or_left (is_less_break b b) _ l) (or_left (is_less_break b b) _ l))
        | inr p ↦ absurd (false≢true (sym h ∙ (and_parts (same_break b b) (is_less_list xs ys) p).1))
      ]
      | inr f ↦ f
    ]

module _ (Ok : List Break → Type 0) where
  -- allowed rests behind a break
  abbrev pub Behind : Break → List Break → Type 0
  Behind b bs = Ok (b ∷ bs)

-- a worth that is the same amount more for each allowed list
pub best_more : (Ok : List Break → Type 0) (worth other : List Break → ℤ) (v w c : ℤ) (rest : List Break) → ((r : List Break) → Ok r → other r ≡ c +ℤ worth r) → w ≡ c +ℤ v
    → IsBestRest Ok worth v rest → IsBestRest Ok other w rest
best_more Ok worth other v w c rest same e b = record {
  allowed = b.allowed;
  is_worth = let s : other rest ≡ c +ℤ worth rest = same rest b.allowed in let g : worth rest ≡ v = b.is_worth in omega (arith, ints);
  greatest = λ r h. let s : other r ≡ c +ℤ worth r = same r h in let g : worth r ≤ℤ v = b.greatest r h in omega (arith, ints);
  least = λ r h g. b.least r h (let s : other r ≡ c +ℤ worth r = same r h in let t : worth r ≡ v = omega (arith, ints) in t);
}

-- the same lists, allowed in other words
pub best_allowed : (Ok Other : List Break → Type 0) (worth : List Break → ℤ) (v : ℤ) (rest : List Break) → ((r : List Break) → Ok r → Other r) → ((r : List Break) → Other r → Ok r)
    → IsBestRest Ok worth v rest → IsBestRest Other worth v rest
best_allowed Ok Other worth v rest to from b =
    record { allowed = to rest b.allowed; is_worth = b.is_worth; greatest = λ r h. b.greatest r (from r h); least = λ r h. b.least r (from r h) }
