-- The beginning of a name that a refusal shows.
use Rattle.instance_json.proofs.Common.{◌≡◌, ℕ, zero, suc, ◌≤◌, List, [], ◌∷◌, length, take, min, IsUtf8, refl, sym, ap, ◌∙◌, arith, utf8_valid_len-IsUtf8, utf8_valid_len, shown}

take_as_long : (n : ℕ) (xs : List ℕ) → take (length (take n xs)) xs ≡ take n xs
take_as_long zero xs = refl
take_as_long (suc n) [] = refl
take_as_long (suc n) (x ∷ xs) = ap (λ ys. x ∷ ys) (take_as_long n xs)

take_twice : (k n : ℕ) (xs : List ℕ) → k ≤ n → take k xs ≡ take k (take n xs)
take_twice zero n xs h = refl
take_twice (suc k) zero xs h = absurd (omega arith)
take_twice (suc k) (suc n) [] h = refl
take_twice (suc k) (suc n) (x ∷ xs) h = ap (λ ys. x ∷ ys) (take_twice k n xs (omega arith))

take_none : (k : ℕ) → take k (let xs : List ℕ = [] in xs) ≡ []
take_none zero = refl
take_none (suc k) = refl

take_least : (n : ℕ) (xs : List ℕ) → take (min (length xs) n) xs ≡ take n xs
take_least zero xs = let e : min (length xs) 0 ≡ 0 = omega arith in rw e
take_least (suc n) [] = take_none (min 0 (suc n))
take_least (suc n) (x ∷ xs) =
    let e : min (suc (length xs)) (suc n) ≡ suc (min (length xs) n) = omega arith in
    rw e (ap (λ ys. x ∷ ys) (take_least n xs))

-- the first bytes of a name, at most 64
pub first_bytes : (name bytes : List ℕ) (k : ℕ) → bytes ≡ name → k ≡ min (length bytes) 64 → take k bytes ≡ take 64 name
first_bytes name bytes k e h = ap (λ j. take j bytes) h ∙ take_least 64 bytes ∙ ap (take 64) e

-- a beginning that is text is shown as it is
pub shown-text : (name : List ℕ) → IsUtf8 (take 64 name) → shown name ≡ take 64 name
unfolding shown
shown-text name h = ap (λ k. take k name) (utf8_valid_len-IsUtf8 (take 64 name) h) ∙ take_as_long 64 name

-- and otherwise its longest beginning that is text
pub shown-cut : (name : List ℕ) (k : ℕ) → k ≡ utf8_valid_len (take 64 name) → k ≤ 64 → shown name ≡ take k (take 64 name)
unfolding shown
shown-cut name k e h = ap (λ j. take j name) (sym e) ∙ take_twice k 64 name h
