-- What a number with a width is written as.
use Rattle.plan_tables.proofs.Common.{◌≡◌, ℕ, zero, suc, ◌-◌, Bool, true, false, ◌==◌, ◌&&◌, cond, List, [], ◌∷◌, ◌++◌, length, replicate, refl, sym, ap, arith, eqb-true, append-nil, encode_utf8, repeat, char_count, decimal, format_spec, padded_integral, styled_decimal, at_right}
use Rattle.std.proofs.lemmas.Str.{encode_ascii}

-- one byte, that often
repeat_one : (n : ℕ) (x : ℕ) → repeat n (x ∷ []) ≡ replicate n x
repeat_one zero x = refl
repeat_one (suc n) x = ap (λ xs. x ∷ xs) (repeat_one n x)

right_of : (width : ℕ) (numeral : List ℕ) → padded_integral (format_spec 32 3 0 width 18446744073709551615) false [] numeral ≡ at_right width numeral
unfolding padded_integral char_count at_right
right_of width numeral =
    let padding = width - length numeral in
    let ascii : encode_utf8 32 ≡ 32 ∷ [] = encode_ascii 32 (omega arith) in
    let before : padding - 0 - 0 ≡ padding = omega arith in
    let behind : padding - padding ≡ 0 = omega arith in
    rw (ascii, before, behind) (simp (repeat_one, append-nil))

-- a number with a width and no other option stands at the right end of its column
pub number_at_right : (width n : ℕ) → styled_decimal (format_spec 32 3 0 width 18446744073709551615) n ≡ at_right width (decimal n)
unfolding at_right
number_at_right width n = by (width == 0) (eqb-true width 0)
  where
    by : (b : Bool) → (b ≡ true → width ≡ 0) → cond (b && true && true) (decimal n) (padded_integral (format_spec 32 3 0 width 18446744073709551615) false [] (decimal n)) ≡ at_right width (decimal n)
    by true narrow =
        let none : width - length (decimal n) ≡ 0 = omega (arith, narrow refl) in
        ap (λ (k : ℕ). replicate k 32 ++ decimal n) (sym none)
    by false _ = right_of width (decimal n)
