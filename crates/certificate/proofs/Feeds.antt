-- Texts without a line feed.
use Rattle.certificate.proofs.Common.{◌≡◌, ℕ, ◌^◌, ◌<◌, Bool, true, false, eqb, not, ◌&&◌, List, [], ◌∷◌, ◌++◌, refl, arith, decimal, and_parts, All-nil, All-cons, All-append}
use Rattle.certificate.proofs.Spelling.{Lacks, decimal_lacks}

-- whether no byte is a line feed
abbrev has_no_feed : List ℕ → Bool
has_no_feed [] = true
has_no_feed (b ∷ bs) = not (eqb b 10) && has_no_feed bs

not_true : (b : Bool) → not b ≡ true → b ≡ false
not_true true e = absurd cc
not_true false e = refl

pub plain : (text : List ℕ) → has_no_feed text ≡ true → Lacks 10 text
plain [] e = All-nil (λ b. eqb b 10 ≡ false)
plain (b ∷ bs) e = let p = and_parts (not (eqb b 10)) (has_no_feed bs) e in All-cons (λ b. eqb b 10 ≡ false) b bs (not_true (eqb b 10) p.0) (plain bs p.1)

pub joins : (a b : List ℕ) → Lacks 10 a → Lacks 10 b → Lacks 10 (a ++ b)
joins a b h k = All-append (λ b. eqb b 10 ≡ false) a b h k

pub behind_byte : (b : ℕ) (text : List ℕ) → eqb b 10 ≡ false → Lacks 10 text → Lacks 10 (b ∷ text)
behind_byte b text e h = All-cons (λ b. eqb b 10 ≡ false) b text e h

-- a text and a blank
pub text_before : (text rest : List ℕ) → Lacks 10 text → Lacks 10 rest → Lacks 10 (text ++ 32 ∷ rest)
text_before text rest h k = joins text (32 ∷ rest) h (behind_byte 32 rest refl k)

-- a number and a blank
pub word_before : (n : ℕ) (rest : List ℕ) → n < 2 ^ 64 → Lacks 10 rest → Lacks 10 (decimal n ++ 32 ∷ rest)
word_before n rest lt k = text_before (decimal n) rest (decimal_lacks 10 n (omega arith) lt) k
