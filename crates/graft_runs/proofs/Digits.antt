-- A word of few digits is parsed.
use Rattle.graft_runs.proofs.Common.{◌≡◌, ℕ, ◌+◌, ◌*◌, ◌^◌, ◌<◌, ◌≤◌, true, leb, ◌&&◌, List, [], ◌∷◌, length, Result, Err, refl, sym, ap, subst, ◌∙◌, arith, nat_le, mul-le-mul_right, mul_assoc, mul_comm, list_all, leb-true, and_parts, is_number}
use Rattle.std.specs.Char.{is_ascii_digit, digit_value}
use Rattle.std.specs.Str.Parse.{digits_value, digits_value_after, AllDigits, IsNumeral, ParsesUnsigned, without_leading_plus}
use Rattle.std.proofs.lemmas.Str.{digit_value_digit}
use Rattle.std.proofs.lemmas.Str.Parse.{without_leading_plus_none}
use Rattle.std.proofs.Math.Nat.{pow-le-pow_right, pow-suc}

pub digit_small : (c : ℕ) → is_ascii_digit c ≡ true → (digit_value c < 10) × (48 ≤ c)
digit_small c e =
    let p = and_parts (leb 48 c) (leb c 57) e in
    let low : 48 ≤ c = leb-true 48 c p.0 in
    let high : c ≤ 57 = leb-true c 57 p.1 in
    let v : digit_value c + 48 ≡ c = digit_value_digit c (low, high) in
    (omega arith, low)

all_digits : (text : List ℕ) → list_all is_ascii_digit text ≡ true → AllDigits 10 text
all_digits [] e = tt
all_digits (c ∷ cs) e = let p = and_parts (is_ascii_digit c) (list_all is_ascii_digit cs) e in ((digit_small c p.0).0, all_digits cs p.1)

-- so many digits behind a number make it at most so many times larger
value_small : (text : List ℕ) (n : ℕ) → AllDigits 10 text → digits_value_after 10 n text < (n + 1) * 10 ^ length text
value_small [] n all = omega arith
value_small (c ∷ cs) n all =
    let d : digit_value c < 10 = all.0 in
    let rest : digits_value_after 10 (n * 10 + digit_value c) cs < (n * 10 + digit_value c + 1) * 10 ^ length cs = value_small cs (n * 10 + digit_value c) all.1 in
    let k : ℕ = 10 ^ length cs in
    let wide : (n * 10 + digit_value c + 1) * k ≤ ((n + 1) * 10) * k = mul-le-mul_right k (let l : n * 10 + digit_value c + 1 ≤ (n + 1) * 10 = omega arith in l) in
    let same : (n + 1) * (10 * k) ≡ ((n + 1) * 10) * k = sym (mul_assoc (n + 1) 10 k) in
    let power : 10 ^ length (c ∷ cs) ≡ 10 * k = pow-suc 10 (length cs) ∙ mul_comm k 10 in
    subst (λ x. digits_value_after 10 n (c ∷ cs) < x) (sym (ap (λ x. (n + 1) * x) power ∙ same)) (omega (arith, rest, wide))

no_plus : (text : List ℕ) → list_all is_ascii_digit text ≡ true → without_leading_plus text ≡ text
no_plus [] e = refl
no_plus (c ∷ cs) e =
    let p = and_parts (is_ascii_digit c) (list_all is_ascii_digit cs) e in
    without_leading_plus_none (c ∷ cs) (λ same. let low : 48 ≤ c = (digit_small c p.0).1 in omega arith)

-- what is known of a word that is a number
pub record Few (text : List ℕ) : Type 0 where
  pub numeral : IsNumeral 10 text
  pub small : digits_value 10 text < 2 ^ 64
  pub same : without_leading_plus text ≡ text

pub few : (text : List ℕ) → is_number text ≡ true → Few text
few text e =
    let p = and_parts (nat_le 1 (length text) && nat_le (length text) 10) (list_all is_ascii_digit text) e in
    let q = and_parts (nat_le 1 (length text)) (nat_le (length text) 10) p.0 in
    let some : 1 ≤ length text = leb-true _ _ q.0 in
    let short : length text ≤ 10 = leb-true _ _ q.1 in
    let all = all_digits text p.1 in
    let v : digits_value 10 text < (0 + 1) * 10 ^ length text = value_small text 0 all in
    let ten : 0 < 10 = omega arith in
    let w : 10 ^ length text ≤ 10 ^ 10 = pow-le-pow_right ten short in
    record { numeral = (omega arith, all); small = omega (arith, v, w); same = no_plus text p.1 }

pub never_refused : {E : Type 0} (text : List ℕ) (r : Result ℕ E) (e : E) → r ≡ Err e → is_number text ≡ true → ParsesUnsigned 64 10 text r → ⊥
never_refused {E} text r e same is p =
    let f = few text is in
    let q = subst (λ (x : Result ℕ E). ParsesUnsigned 64 10 text x) same p in
    q (subst (IsNumeral 10) (sym f.same) f.numeral, subst (λ (t : List ℕ). digits_value 10 t < 2 ^ 64) (sym f.same) f.small)
