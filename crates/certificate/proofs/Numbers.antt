-- A text that begins as a number does is parsed exactly where it is the spelling of a number.
use Rattle.certificate.proofs.Common.{◌≡◌, ℕ, ◌+◌, ◌^◌, ◌<◌, ◌≤◌, true, false, eqb, leb, not, List, [], ◌∷◌, length, get_or, Option, Some, None, Result, Ok, Err, refl, sym, ap, subst, ◌∙◌, arith, inl, inr, decimal, digits_value, AllDigits, IsNumeral, ParsesUnsigned, without_leading_plus, le-leb, leb-true, ne_eqb, eq-eqb, and_parts, and_from, cases_lt, decimal_is_IsNumeral, decimal_digit, first_decimal, decimal-digits_value, parse-decimal, IsAscii-decimal, IsNumeralModel, numerals_by_value, tells_digits, digit_at, without_leading_plus_none, begins_number, plain_number}
use Rattle.std.specs.Result.{result_ok}
use Rattle.std.specs.Str.{IsUtf8}
use Rattle.std.specs.Char.{is_ascii_digit as is_digit}
use Rattle.std.proofs.lemmas.Str.{IsUtf8-from_ascii}
use Rattle.certificate.proofs.Spelling.{some_of, number}

-- a text is no number where it is the spelling of none
no_number_at : (text : List ℕ) (o : Option ℕ) → plain_number text ≡ o → ((n : ℕ) → n < 2 ^ 64 → text ≡ decimal n → ⊥) → o ≡ None
no_number_at text (Some n) e never = let t = number.takes text n e in absurd (never n t.1 t.0)
no_number_at text None e never = refl

pub no_number : (text : List ℕ) → ((n : ℕ) → n < 2 ^ 64 → text ≡ decimal n → ⊥) → plain_number text ≡ None
no_number text never = no_number_at text (plain_number text) refl never

digit : (b : ℕ) → 48 ≤ b → b ≤ 57 → is_digit b ≡ true
digit b low high = and_from (leb 48 b) (leb b 57) (le-leb 48 b low) (le-leb b 57 high)

not_zero : (b : ℕ) → 48 < b → not (eqb b 48) ≡ true
not_zero b lt = ap not (ne_eqb b 48 (λ e. omega arith))

large_begins : (text : List ℕ) → 0 < length text → 48 < get_or text 0 0 → get_or text 0 0 ≤ 57 → begins_number text ≡ true
large_begins [] some low high = absurd (omega arith)
large_begins (b ∷ []) some low high = digit b (omega arith) high
large_begins (b ∷ c ∷ rest) some low high = and_from (is_digit b) (not (eqb b 48)) (digit b (omega arith) high) (not_zero b low)

-- the spelling of a number begins as a number does
pub decimal_begins : (n : ℕ) → n < 2 ^ 64 → begins_number (decimal n) ≡ true
decimal_begins n lt = elim (cases_lt n 10) [
  | inl small ↦ ap begins_number (decimal_digit n small) ∙ digit (48 + n) (omega arith) (omega arith)
  | inr large ↦
      let k = (decimal_is_IsNumeral n lt).0 in
      let d = digit_at (decimal n) 0 k.1 k.0 in
      large_begins (decimal n) k.0 (first_decimal n (omega arith) lt) d.1
]

-- what a beginning says of the first byte
pub record Beginning (text : List ℕ) : Type 0 where
  pub digit : 48 ≤ get_or text 0 0
  pub alone : get_or text 0 0 ≡ 48 → length text ≡ 1

zero_not : (b : ℕ) → b ≡ 48 → not (eqb b 48) ≡ true → ⊥
zero_not b same e = let never : true ≡ not true = sym e ∙ ap not (eq-eqb b 48 same) in cc

beginning : (text : List ℕ) → begins_number text ≡ true → Beginning text
beginning [] e = absurd cc
beginning (b ∷ []) e = let p = and_parts (leb 48 b) (leb b 57) e in record { digit = leb-true 48 b p.0; alone = λ same. refl }
beginning (b ∷ c ∷ rest) e =
    let p = and_parts (is_digit b) (not (eqb b 48)) e in
    let q = and_parts (leb 48 b) (leb b 57) p.0 in
    record { digit = leb-true 48 b q.0; alone = λ same. absurd (zero_not b same p.1) }

own : IsNumeralModel (AllDigits 10) (digits_value 10)
own = numerals_by_value (AllDigits 10) tells_digits

pub parsed : {E : Type 0} (text : List ℕ) (r : Result ℕ E) → begins_number text ≡ true → ParsesUnsigned 64 10 text r → result_ok r ≡ plain_number text
parsed {E} text (Ok n) begins p =
    let b = beginning text begins in
    let same : without_leading_plus text ≡ text = without_leading_plus_none text (λ e. let low = b.digit in omega arith) in
    let h = subst (λ (t : List ℕ). (IsNumeral 10 t × (digits_value 10 t < 2 ^ 64)) × (n ≡ digits_value 10 t)) same p in
    let is : decimal (digits_value 10 text) ≡ text = decimal-digits_value own text h.0.0.1 h.0.0.0 b.alone h.0.1 in
    ap some_of h.1 ∙ sym (number.again (digits_value 10 text) h.0.1) ∙ ap plain_number is
parsed {E} text (Err e) begins p = sym (no_number text (λ n lt is.
    let r : Result ℕ E = Err e in
    let k = parse-decimal 64 n text r lt lt is p in
    absurd cc))

-- a text that isn't UTF-8 is no number
pub no_text : (text : List ℕ) → (IsUtf8 text → ⊥) → plain_number text ≡ None
no_text text never = no_number text (λ n lt is. never (subst IsUtf8 (sym is) (IsUtf8-from_ascii (decimal n) (IsAscii-decimal n lt))))

-- nor one that doesn't begin as a number does
pub no_beginning : (text : List ℕ) → begins_number text ≡ false → plain_number text ≡ None
no_beginning text e = no_number text (λ n lt is. let never = sym e ∙ ap begins_number is ∙ decimal_begins n lt in absurd cc)
