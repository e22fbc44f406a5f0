-- What was found, and the lists that it covers.
use Rattle.pricing.proofs.Common.{◌≡◌, inl, inr, ℤ, pos, ◌+ℤ◌, ◌≤ℤ◌, Bool, true, false, ◌&&◌, List, ◌++◌, sym, ap, ◌∙◌, subst, arith, Option, Some, None, int_lt, to_z, of_z, ◌*◌, ◌^◌, ◌≤◌, int_eq, w64, unsigned_abs, w128, bonus_of, kept_worth, ints, false≢true, cases_Bool, or_cases, or_parts, and_parts, Decides-int_eq, Break, is_legal, is_less_list, Found, price_in, earned_from, Priced, IsLegal, worth_of, IsFound, Covers, is_better, Keeps, CoversFrom, IsBestFound}
use Rattle.pricing.proofs.Best.{not_less}
use Rattle.pricing.proofs.Lesser.{not_less_on, not_less_itself}

module _ (p : Priced) (entries : List (List Break × ℤ)) where
  -- what covers a list covers each that is no better
  pub covers_on : (best : Option Found) (list other : List Break) → Covers p entries best list → worth_of p entries other ≤ℤ worth_of p entries list
      → (worth_of p entries other ≡ worth_of p entries list → is_less_list other list ≡ false) → Covers p entries best other
  covers_on None list other c most least = c
  covers_on (Some f) list other c most least =
      let v = worth_of p entries other in
      let w = worth_of p entries list in
      let up : w ≤ℤ f.value = c.0 in
      (omega (arith, ints), λ e. not_less_on other list f.list (least (let s : v ≡ w = omega (arith, ints) in s)) (c.1 (let s : w ≡ f.value = omega (arith, ints) in s)))

  -- a list covers itself
  pub covers_itself : (list : List Break) (value : ℤ) → value ≡ worth_of p entries list → Covers p entries (Some (record { list = list; value = value })) list
  covers_itself list value e = (let s : worth_of p entries list ≤ℤ value = omega (arith, ints) in s, λ h. not_less_itself list)

  -- a better one covers what was covered before
  pub covers_better : (list : List Break) (value : ℤ) (old : Found) → is_better list value old ≡ true → Keeps p entries (Some old) (Some (record { list = list; value = value }))
  covers_better list value old h other c =
      let v = worth_of p entries other in
      let up : v ≤ℤ old.value = c.0 in
      elim (or_cases (int_lt old.value value) (int_eq old.value value && is_less_list list old.list) h) [
        | inl l ↦ let more : (old.value +ℤ pos 1) ≤ℤ value = less old.value value l in (omega (arith, ints), λ e. absurd (let s : v ≡ value = e in omega (arith, ints)))
        | inr b ↦
            let parts = and_parts (int_eq old.value value) (is_less_list list old.list) b in
            let same : old.value ≡ value = (Decides-int_eq old.value value).0 parts.0 in
            (omega (arith, ints), λ e. not_less_on other old.list list (c.1 (e ∙ sym same)) (not_less list old.list parts.1))
      ]
    where
      less : (x y : ℤ) → int_lt x y ≡ true → (x +ℤ pos 1) ≤ℤ y
      less x y h = grind (arith, ints)

  -- and one that isn't better is covered
  pub covers_worse : (list : List Break) (value : ℤ) (old : Found) → value ≡ worth_of p entries list → is_better list value old ≡ false → Covers p entries (Some old) list
  covers_worse list value old is h =
      let parts = or_parts (int_lt old.value value) (int_eq old.value value && is_less_list list old.list) h in
      let most : value ≤ℤ old.value = more old.value value parts.0 in
      (omega (arith, ints), λ e. rest (int_eq old.value value) (is_less_list list old.list) ((Decides-int_eq old.value value).1 (sym e ∙ sym is)) parts.1)
    where
      more : (x y : ℤ) → int_lt x y ≡ false → y ≤ℤ x
      more x y h = grind (arith, ints)

      rest : (a b : Bool) → a ≡ true → (a && b) ≡ false → b ≡ false
      rest true b h g = g
      rest false b h g = absurd (false≢true h)

  pub keeps_from : (old new : Option Found) (front : List Break) → Keeps p entries old new → CoversFrom p entries old front → CoversFrom p entries new front
  keeps_from old new front k c rest h l = k (front ++ rest) (c rest h l)

  -- what was found and covers each legal list is the best
  pub best_found : (best : Option Found) → IsFound p entries best → ((list : List Break) → IsLegal p list → Covers p entries best list) → IsBestFound p entries best
  best_found None f all = λ list. elim (cases_Bool (is_legal p.rule p.len list)) [ inl t ↦ absurd (all list t) | inr n ↦ n ]
  best_found (Some f) found all = record {
    allowed = found.0;
    is_worth = sym found.1;
    greatest = λ other h. (all other h).0;
    least = λ other h e. (all other h).1 e;
  }

-- the best by one worth is the best by another that is equal
pub best_same : (p : Priced) (entries others : List (List Break × ℤ)) (best : Option Found) → ((list : List Break) → worth_of p entries list ≡ worth_of p others list) → IsBestFound p entries best → IsBestFound p others best
best_same p entries others None same b = b
best_same p entries others (Some f) same b = record {
  allowed = b.allowed;
  is_worth = sym (same f.list) ∙ b.is_worth;
  greatest = λ other h. subst (λ (z : ℤ). z ≤ℤ f.value) (same other) (b.greatest other h);
  least = λ other h e. b.least other h (same other ∙ e);
}

-- the worth of a list, as it is made of its parts
pub worth_made : (p : Priced) (entries : List (List Break × ℤ)) (list xs ys : List Break) (e f b : ℤ) → xs ≡ list → ys ≡ list
    → e ≡ earned_from (price_in p.sums) p.rule p.len 0 xs → unsigned_abs e ≤ 10000000000 * 65535 → b ≡ bonus_of entries ys → unsigned_abs b ≤ 2 ^ 33 * 1000000000000 → f ≡ to_z w64 (of_z w64 e)
    → to_z w128 (of_z w128 (to_z w128 (of_z w128 f) +ℤ to_z w128 (of_z w128 b))) ≡ worth_of p entries list
worth_made p entries list xs ys e f b one two is small sum few wide =
    kept_worth e f b small few wide
    ∙ ap (λ (z : ℤ). z +ℤ b) (is ∙ ap (earned_from (price_in p.sums) p.rule p.len 0) one)
    ∙ ap (λ (z : ℤ). earned_from (price_in p.sums) p.rule p.len 0 list +ℤ z) (sum ∙ ap (bonus_of entries) two)
