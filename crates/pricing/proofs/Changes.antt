-- Prices after changes, and the last offset that they reach.
use Rattle.pricing.proofs.Common.{◌≡◌, inl, inr, ℕ, ◌≤◌, ◌==◌, ℤ, pos, true, false, List, [], ◌∷◌, length, refl, sym, ◌∙◌, arith, Some, eq-eqb, slice_set, All, list_any, unsigned_abs, false≢true, cases_Bool, or_parts, cases_lt, length-set, get_or-set_other, All-set, All-tail, Shift, Problem, slot_of, price_of, AreSmallPrices, repriced, NameNone, NameNoneAbove, HaveSamePrice, IsLastChange}
use Rattle.pricing.specs.Tables.{is_named}

abbrev change_to : List ℤ → ℕ × ℤ → List ℤ
change_to list change = slice_set list change.0 change.1

pub length-repriced : (prices : List ℤ) (changes : List (ℕ × ℤ)) → length (repriced prices changes) ≡ length prices
length-repriced prices [] = refl
length-repriced prices (c ∷ cs) = length-repriced (change_to prices c) cs ∙ length-set prices c.0 c.1

pub small_repriced : (prices : List ℤ) (changes : List (ℕ × ℤ)) → AreSmallPrices prices → All (λ change. unsigned_abs change.1 ≤ 10000000000) changes → AreSmallPrices (repriced prices changes)
small_repriced prices [] small each = small
small_repriced prices (c ∷ cs) small each =
    small_repriced (change_to prices c) cs (All-set (λ p. unsigned_abs p ≤ 10000000000) prices c.0 c.1 (each 0 c (omega arith)) small) (All-tail (λ change. unsigned_abs change.1 ≤ 10000000000) c cs each)

-- a slot that no change names keeps its price
pub unnamed : (prices : List ℤ) (changes : List (ℕ × ℤ)) (slot : ℕ) → list_any (λ change. change.0 == slot) changes ≡ false → price_of (repriced prices changes) slot ≡ price_of prices slot
unnamed prices [] slot none = refl
unnamed prices (c ∷ cs) slot none =
    let parts = or_parts (c.0 == slot) (list_any (λ change. change.0 == slot) cs) none in
    unnamed (change_to prices c) cs slot parts.1 ∙ get_or-set_other prices c.0 slot c.1 (pos 0) (λ e. false≢true (sym parts.0 ∙ eq-eqb c.0 slot (sym e)))

module _ (i : Problem) (shift : Shift) (day : ℕ) (old : List ℤ) (changes : List (ℕ × ℤ)) where
  -- where prices changed at an offset, its slot is named
  last_named : (last : ℕ) → (HaveSamePrice i shift day old (repriced old changes) last → ⊥) → is_named i shift day changes last ≡ true
  last_named last differ =
      elim (cases_Bool (is_named i shift day changes last)) [ inl t ↦ t | inr n ↦ absurd (differ (unnamed old changes (slot_of i shift day last) n)) ]

  -- so none is named nowhere
  pub some_named : (last : ℕ) → IsLastChange i shift day old (repriced old changes) shift.len (Some last) → NameNone i shift day changes → ⊥
  some_named last change none = false≢true (sym (none last change.0) ∙ last_named last change.1)

  -- and the last change lies no further than the named slots
  pub last_within : (last bound : ℕ) → IsLastChange i shift day old (repriced old changes) shift.len (Some last) → NameNoneAbove i shift day changes bound → last ≤ bound
  last_within last bound change none =
      elim (cases_lt bound last) [
        | inl l ↦ absurd (false≢true (sym (none last l change.0) ∙ last_named last change.1))
        | inr m ↦ m
      ]
