-- Which words are no command, and that a number that was read is within its limit.
use Rattle.std.proofs.Common.{◌≡◌, ◌≢◌, ℕ, ◌≤◌, Bool, true, false, ◌&&◌, cond, List, [], ◌∷◌, length, refl, arith, nat_le, Some, None}
use Rattle.std.specs.Str.Parse.{digits_value}
use Rattle.std.proofs.lemmas.Bool.{and_parts, leb-true}
use Rattle.graft_runs.specs.Words.{is_number, number_within, request_of}

-- a number that was read is within its limit
pub within : (most n : ℕ) (word : List ℕ) → number_within most word ≡ Some n → n ≤ most
within most n word e =
    let r = chosen (is_number word && nat_le (digits_value 10 word) most) (digits_value 10 word) n e in
    let p = and_parts (is_number word) (nat_le (digits_value 10 word) most) r.0 in
    let small : digits_value 10 word ≤ most = leb-true (digits_value 10 word) most p.1 in
    let same : digits_value 10 word ≡ n = r.1 in
    omega (arith, small, same)
  where
    chosen : (c : Bool) (x y : ℕ) → cond c (Some x) None ≡ Some y → (c ≡ true) × (x ≡ y)
    chosen true x y e = let same : x ≡ y = cc in (refl, same)
    chosen false x y e = absurd (cc)

-- so many words are no command
pub other_words : (words : List (List ℕ)) → length words ≢ 4 → length words ≢ 5 → length words ≢ 6 → length words ≢ 7 → request_of words ≡ None
other_words [] a b c d = refl
other_words (w ∷ []) a b c d = refl
other_words (w ∷ x ∷ []) a b c d = refl
other_words (w ∷ x ∷ y ∷ []) a b c d = refl
other_words (w ∷ x ∷ y ∷ z ∷ []) a b c d = absurd (a refl)
other_words (w ∷ x ∷ y ∷ z ∷ u ∷ []) a b c d = absurd (b refl)
other_words (w ∷ x ∷ y ∷ z ∷ u ∷ v ∷ []) a b c d = absurd (c refl)
other_words (w ∷ x ∷ y ∷ z ∷ u ∷ v ∷ t ∷ []) a b c d = absurd (d refl)
other_words (w ∷ x ∷ y ∷ z ∷ u ∷ v ∷ t ∷ s ∷ rest) a b c d = refl
