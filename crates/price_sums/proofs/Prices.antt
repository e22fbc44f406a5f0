-- Sums of prices, one offset after another.
use Rattle.price_sums.proofs.Common.{◌≡◌, ◌⊎◌, inl, inr, ℕ, zero, suc, ◌+◌, ◌%◌, ◌*◌, ◌^◌, ◌<◌, ◌≤◌, ℤ, pos, ◌+ℤ◌, ◌-ℤ◌, List, [], ◌∷◌, ◌++◌, length, sym, ap, ◌∙◌, subst, arith, Some, Option, to_z, of_z, get_or, FitsSigned, w64, unsigned_abs, IsSomeAnd, ints, fits_signed_from_abs, to_z-of_z, get_or_append_left, get_or_push, Rule, Shift, Problem, day_slots, slots, slot_of, add-mod, mod-mod, sum_at, price_in, AreSmallPrices, abs_add}
use mir.Syntax.{w128}
use Rattle.std.proofs.lemmas.List.Elements.{All-get_or}

pub price_small : (prices : List ℤ) (t : ℕ) → t < length prices → AreSmallPrices prices → unsigned_abs (get_or prices t (pos 0)) ≤ 10000000000
price_small prices t inside small = All-get_or (λ p. unsigned_abs p ≤ 10000000000) prices t (pos 0) inside small

module _ (sum p : ℤ) (offset : ℕ) (size : unsigned_abs sum ≤ 10000000000 * offset) (few : offset < 65536) (small : unsigned_abs p ≤ 10000000000) where
  pub next_size : unsigned_abs (sum +ℤ p) ≤ 10000000000 * (offset + 1)
  next_size = let both = abs_add sum p (10000000000 * offset) 10000000000 size small in omega arith

  pub next_fits : FitsSigned w64 (sum +ℤ to_z w64 (of_z w64 p))
  next_fits =
      let back : to_z w64 (of_z w64 p) ≡ p = to_z-of_z w64 p (fits_signed_from_abs w64 p (omega arith)) in
      let bound = next_size in
      subst (λ (z : ℤ). FitsSigned w64 (sum +ℤ z)) (sym back) (fits_signed_from_abs w64 (sum +ℤ p) (omega arith))

  -- the next sum, as it is kept
  pub next_sum : to_z w64 (of_z w64 (sum +ℤ to_z w64 (of_z w64 p))) ≡ sum +ℤ p
  next_sum =
      let back : to_z w64 (of_z w64 p) ≡ p = to_z-of_z w64 p (fits_signed_from_abs w64 p (omega arith)) in
      let bound = next_size in
      ap (λ (z : ℤ). to_z w64 (of_z w64 (sum +ℤ z))) back ∙ to_z-of_z w64 (sum +ℤ p) (fits_signed_from_abs w64 (sum +ℤ p) (omega arith))

-- a sum more
module _ (sums : List ℤ) (offset : ℕ) (x : ℤ) (many : length sums ≡ offset + 1) where
  pub last_sum : x ≡ sum_at (sums ++ x ∷ []) (offset + 1)
  last_sum = sym (get_or_push sums x (pos 0) (offset + 1) many)

  pub price_before : (o : ℕ) → o < offset → price_in (sums ++ x ∷ []) o ≡ price_in sums o
  price_before o l =
      ap (λ (z : ℤ). z -ℤ sum_at (sums ++ x ∷ []) o) (get_or_append_left sums (x ∷ []) (pos 0) (o + 1) (omega arith))
      ∙ ap (λ (z : ℤ). sum_at sums (o + 1) -ℤ z) (get_or_append_left sums (x ∷ []) (pos 0) o (omega arith))

  pub price_last : (sum p : ℤ) → sum ≡ sum_at sums offset → x ≡ sum +ℤ p → price_in (sums ++ x ∷ []) offset ≡ p
  price_last sum p last is =
      let one : sum_at (sums ++ x ∷ []) (offset + 1) ≡ x = sym last_sum in
      let two : sum_at (sums ++ x ∷ []) offset ≡ sum_at sums offset = get_or_append_left sums (x ∷ []) (pos 0) offset (omega arith) in
      omega (arith, ints)

  -- what holds of the prices so far and of this one holds of each
  pub prices_more : (price : ℕ → ℤ) (sum p : ℤ) → sum ≡ sum_at sums offset → x ≡ sum +ℤ p → p ≡ price offset → ((o : ℕ) → o < offset → price_in sums o ≡ price o)
      → (o : ℕ) → o < offset + 1 → price_in (sums ++ x ∷ []) o ≡ price o
  prices_more price sum p last is here before o l =
      elim (cases o l) [
        | inl less ↦ price_before o less ∙ before o less
        | inr same ↦ ap (price_in (sums ++ x ∷ [])) same ∙ price_last sum p last is ∙ here ∙ ap price (sym same)
      ]
    where
      cases : (o : ℕ) → o < offset + 1 → (o < offset) ⊎ (o ≡ offset)
      cases o l = grind arith

-- all sums are small
pub sizes_more : (sums : List ℤ) (x : ℤ) → ((o : ℕ) → unsigned_abs (sum_at sums o) ≤ 10000000000 * 65536) → unsigned_abs x ≤ 10000000000 * 65536
    → (o : ℕ) → unsigned_abs (sum_at (sums ++ x ∷ []) o) ≤ 10000000000 * 65536
sizes_more [] x before here zero = here
sizes_more [] x before here (suc o) = before o
sizes_more (s ∷ sums) x before here zero = before 0
sizes_more (s ∷ sums) x before here (suc o) = sizes_more sums x (λ n. before (suc n)) here o

-- the slot of the next offset
pub next_slot_is : (i : Problem) (shift : Shift) (day offset slot : ℕ) → slot ≡ slot_of i shift day offset → (slot + 1) % slots i ≡ slot_of i shift day (offset + 1)
next_slot_is i shift day offset slot is =
    let n = slots i in
    let a = day * day_slots i + shift.start + offset in
    let e : a + 1 ≡ day * day_slots i + shift.start + (offset + 1) = omega arith in
    ap (λ s. (s + 1) % n) is ∙ add-mod (a % n) 1 n ∙ ap (λ k. (k + 1 % n) % n) (mod-mod a n) ∙ sym (add-mod a 1 n) ∙ ap (λ k. k % n) e

pub some_at : (o : Option (Shift × Rule)) (x : Shift × Rule) (P : Shift × Rule → Type 0) → o ≡ Some x → IsSomeAnd o P → P x
some_at o x P e h = subst (λ (q : Option (Shift × Rule)). IsSomeAnd q P) e h

-- what a duty earns and its bonus, as their sum is kept
pub kept_worth : (e f b : ℤ) → unsigned_abs e ≤ 10000000000 * 65535 → unsigned_abs b ≤ 2 ^ 33 * 1000000000000 → f ≡ to_z w64 (of_z w64 e)
    → to_z w128 (of_z w128 (to_z w128 (of_z w128 f) +ℤ to_z w128 (of_z w128 b))) ≡ e +ℤ b
kept_worth e f b small few is =
    let wide : f ≡ e = is ∙ to_z-of_z w64 e (fits_signed_from_abs w64 e (omega arith)) in
    let one : to_z w128 (of_z w128 f) ≡ e = ap (λ (z : ℤ). to_z w128 (of_z w128 z)) wide ∙ to_z-of_z w128 e (fits_signed_from_abs w128 e (omega arith)) in
    let two : to_z w128 (of_z w128 b) ≡ b = to_z-of_z w128 b (fits_signed_from_abs w128 b (omega arith)) in
    let both = abs_add e b (10000000000 * 65535) (2 ^ 33 * 1000000000000) small few in
    ap (λ (z : ℤ). to_z w128 (of_z w128 (z +ℤ to_z w128 (of_z w128 b)))) one ∙ ap (λ (z : ℤ). to_z w128 (of_z w128 (e +ℤ z))) two
    ∙ to_z-of_z w128 (e +ℤ b) (fits_signed_from_abs w128 (e +ℤ b) (omega arith))

-- a small number, as it is kept
pub kept_small : (x : ℤ) → unsigned_abs x ≤ 1000000000000 → to_z w64 (of_z w64 x) ≡ x
kept_small x small = to_z-of_z w64 x (fits_signed_from_abs w64 x (omega arith))
