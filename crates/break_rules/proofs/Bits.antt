-- The bits of the lunch entries that are met.
use Rattle.break_rules.proofs.Common.{◌≡◌, ℕ, suc, ◌+◌, ◌*◌, ◌/◌, ◌%◌, ◌<◌, ◌≤◌, ◌^◌, get_or, take, zero, Bool, true, false, ◌||◌, List, [], ◌∷◌, length, refl, ap, ◌∙◌, arith, bit_or, if◌then◌else◌, Lunch, bits_of}

-- where no entry is met no bit is set
pub bits_none : (es : List Lunch) → bits_of (λ e. false) es ≡ 0
bits_none [] = refl
bits_none (e ∷ es) = omega (arith, bits_none es)

-- entries that pass alike have the same bits
pub bits_same : (p q : Lunch → Bool) (es : List Lunch) → ((e : Lunch) → p e ≡ q e) → bits_of p es ≡ bits_of q es
bits_same p q [] h = refl
bits_same p q (e ∷ es) h = ap (λ (b : Bool). (if b then 1 else 0) + 2 * bits_of p es) (h e) ∙ ap (λ n. (if q e then 1 else 0) + 2 * n) (bits_same p q es h)

digit_small : (b : Bool) → (if b then 1 else 0) ≤ 1
digit_small true = omega arith
digit_small false = omega arith

-- two entries have two bits
pub bits_one : (p : Lunch → Bool) (es : List Lunch) → length es ≤ 1 → bits_of p es ≤ 1
bits_one p [] h = omega arith
bits_one p (e ∷ []) h = omega (arith, digit_small (p e))
bits_one p (e ∷ f ∷ es) h = absurd (omega arith)

pub bits_few : (p : Lunch → Bool) (es : List Lunch) → length es ≤ 2 → bits_of p es ≤ 3
bits_few p [] h = omega arith
bits_few p (e ∷ es) h = let rest : bits_of p es ≤ 1 = bits_one p es (omega arith) in omega (arith, digit_small (p e))

-- the lowest bit, and the others
pub low_bit : (p : Lunch → Bool) (e : Lunch) (es : List Lunch) → bits_of p (e ∷ es) % 2 ≡ (if p e then 1 else 0)
low_bit p e es = omega (arith, digit_small (p e))

pub high_bits : (p : Lunch → Bool) (e : Lunch) (es : List Lunch) → bits_of p (e ∷ es) / 2 ≡ bits_of p es
high_bits p e es = omega (arith, digit_small (p e))

or_one : (a b : Bool) → bit_or ((if a then 1 else 0) + 2 * 0) ((if b then 1 else 0) + 2 * 0) ≡ (if a || b then 1 else 0) + 2 * 0
or_one true true = refl
or_one true false = refl
or_one false true = refl
or_one false false = refl

or_two : (a b c d : Bool)
    → bit_or ((if a then 1 else 0) + 2 * ((if b then 1 else 0) + 2 * 0)) ((if c then 1 else 0) + 2 * ((if d then 1 else 0) + 2 * 0))
    ≡ (if a || c then 1 else 0) + 2 * ((if b || d then 1 else 0) + 2 * 0)
or_two true true true true = refl
or_two true true true false = refl
or_two true true false true = refl
or_two true true false false = refl
or_two true false true true = refl
or_two true false true false = refl
or_two true false false true = refl
or_two true false false false = refl
or_two false true true true = refl
or_two false true true false = refl
or_two false true false true = refl
or_two false true false false = refl
or_two false false true true = refl
or_two false false true false = refl
or_two false false false true = refl
or_two false false false false = refl

-- the entries that pass one test or the other
pub bits_or : (p q : Lunch → Bool) (es : List Lunch) → length es ≤ 2 → bit_or (bits_of p es) (bits_of q es) ≡ bits_of (λ e. p e || q e) es
bits_or p q [] h = refl
bits_or p q (e ∷ []) h = or_one (p e) (q e)
bits_or p q (e ∷ f ∷ []) h = or_two (p e) (p f) (q e) (q f)
bits_or p q (e ∷ f ∷ g ∷ es) h = absurd (omega arith)

-- one entry more has the next bit
pub bits_more : (p : Lunch → Bool) (es : List Lunch) (i : ℕ) (d : Lunch) → i < length es → i < 2
    → bits_of p (take (i + 1) es) ≡ bits_of p (take i es) + (if p (get_or es i d) then 2 ^ i else 0)
bits_more p [] i d h few = absurd (omega arith)
bits_more p (e ∷ es) zero d h few = first (p e)
  where
    first : (b : Bool) → ◌≡◌ {A = ℕ} ((if b then 1 else 0) + 2 * 0) (0 + (if b then 1 else 0))
    first true = refl
    first false = refl
bits_more p (e ∷ []) (suc i) d h few = absurd (omega arith)
bits_more p (e ∷ f ∷ es) (suc zero) d h few = second (p e) (p f)
  where
    second : (a b : Bool) → ◌≡◌ {A = ℕ} ((if a then 1 else 0) + 2 * ((if b then 1 else 0) + 2 * 0)) ((if a then 1 else 0) + 2 * 0 + (if b then 2 else 0))
    second true true = refl
    second true false = refl
    second false true = refl
    second false false = refl
bits_more p (e ∷ f ∷ es) (suc (suc i)) d h few = absurd (omega arith)

pub bit_more : (i : ℕ) → i < 2 → (2 ^ i) * 2 ≡ 2 ^ (i + 1)
bit_more zero h = refl
bit_more (suc zero) h = refl
bit_more (suc (suc i)) h = absurd (omega arith)

pub bit_small : (i : ℕ) → i < 2 → 2 ^ i ≤ 2
bit_small zero h = omega arith
bit_small (suc zero) h = omega arith
bit_small (suc (suc i)) h = absurd (omega arith)
