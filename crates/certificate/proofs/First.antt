-- The first place of a byte.
use Rattle.certificate.proofs.Common.{◌≡◌, ℕ, Bool, true, false, eqb, List, length, get_or, Option, Some, None, refl, arith, inl, inr, le_refl, position, position_or_len, cases_Bool, lt-ltb, le-ltb, position_or_len_is}
use Rattle.memchr.specs.Find.{IsFirstByte, is_byte}

is_false : (b : Bool) → (b ≡ true → ⊥) → b ≡ false
is_false b never = elim (cases_Bool b) [ inl t ↦ absurd (never t) | inr f ↦ f ]

-- the first byte that is one is at the first such place
pub first_place : (by : ℕ) (text : List ℕ) (r : Option ℕ) → IsFirstByte (is_byte by) text r → r ≡ position (λ b. eqb b by) text
first_place by text None h =
    let at : position_or_len (λ b. eqb b by) text ≡ length text = position_or_len_is (λ b. eqb b by) text (length text) 0 (omega arith) (λ k lt. is_false (eqb (get_or text k 0) by) (h k (omega arith) lt)) (λ lt. absurd (omega arith)) in
    rw (at, le-ltb (length text) (length text) (le_refl (length text))) refl
first_place by text (Some k) h =
    let at : position_or_len (λ b. eqb b by) text ≡ k = position_or_len_is (λ b. eqb b by) text k 0 (omega (arith, h.0.high)) (λ j lt. is_false (eqb (get_or text j 0) by) (h.0.before j (omega arith) lt)) (λ lt. h.1) in
    rw (at, lt-ltb k (length text) h.0.high) refl
