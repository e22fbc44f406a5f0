-- The words of each line are read exactly where they are spelled so.
use Rattle.certificate.proofs.Common.{◌≡◌, ℕ, ◌^◌, ◌<◌, ◌≤◌, false, eqb, List, ◌∷◌, None, refl, sym, ap, ◌∙◌, arith, codes, All, decimal, leb-true, le-leb, ne_eqb, All-cons, All-append, recursion_from_All, Break, break_text, breaks_text, row_line, FitsBreak, FitsRow, cut_at, number_in, to_break, break_in, breaks_in, to_row, row_in}
use Rattle.std.specs.Prelude.{nat_le}
use Rattle.certificate.proofs.Spelling.{Exact, Lacks, cut_again, number, decimal_lacks, kept_exact, led_exact, sides_exact, mapped_exact}
use Rattle.certificate.proofs.Joined.{joined_or_dash_lacks, parts_or_dash_exact}

-- a number up to a limit below 2^64
pub number_below : (most : ℕ) → most < 2 ^ 64 → Exact (λ n. n ≤ most) decimal (number_in most)
number_below most small = let one = kept_exact (λ n. nat_le n most) number in record {
  takes = λ text n e. let t = one.takes text n e in (t.0, leb-true n most t.1.1);
  again = λ n h. one.again n (omega arith, le-leb n most h);
}

-- ---- breaks

pub break_exact : Exact FitsBreak break_text break_in
unfolding break_in
break_exact = mapped_exact FitsBreak break_text to_break (λ b. (b.start, b.len))
    (λ a h. (refl, (omega (arith, h.0), omega (arith, h.1)))) (λ b h. (refl, refl, (omega (arith, h.0), omega (arith, h.1))))
    (sides_exact 43 (number_below 65535 (omega arith)) (λ n h. decimal_lacks 43 n (omega arith) (omega arith)) (number_below 65535 (omega arith)))

pub break_lacks : (by : ℕ) (b : Break) → by < 43 → FitsBreak b → Lacks by (break_text b)
break_lacks by b small h =
    All-append (λ b. eqb b by ≡ false) (decimal b.start) (43 ∷ decimal b.len) (decimal_lacks by b.start (omega arith) (omega (arith, h.0)))
    (All-cons (λ b. eqb b by ≡ false) 43 (decimal b.len) (ne_eqb 43 by (λ e. omega arith)) (decimal_lacks by b.len (omega arith) (omega (arith, h.1))))

break_lacks_comma : (b : Break) → FitsBreak b → Lacks 44 (break_text b)
break_lacks_comma b h =
    All-append (λ b. eqb b 44 ≡ false) (decimal b.start) (43 ∷ decimal b.len) (decimal_lacks 44 b.start (omega arith) (omega (arith, h.0)))
    (All-cons (λ b. eqb b 44 ≡ false) 43 (decimal b.len) refl (decimal_lacks 44 b.len (omega arith) (omega (arith, h.1))))

-- a break has a `+` in it
break_no_dash : (b : Break) → FitsBreak b → break_text b ≡ codes "-" → ⊥
unfolding cut_at
break_no_dash b h e =
    let cut = cut_again 43 (decimal b.start) (decimal b.len) (decimal_lacks 43 b.start (omega arith) (omega (arith, h.0))) in
    let none : cut_at 43 (codes "-") ≡ None = refl in
    absurd (let both = sym none ∙ ap (cut_at 43) (sym e) ∙ cut in cc)

pub breaks_exact : Exact (All FitsBreak) breaks_text breaks_in
unfolding breaks_in
breaks_exact = parts_or_dash_exact break_exact break_lacks_comma break_no_dash

pub breaks_lack : (by : ℕ) → by < 43 → (bs : List Break) → All FitsBreak bs → Lacks by (breaks_text bs)
breaks_lack by small bs h = joined_or_dash_lacks FitsBreak break_text by (omega arith) (λ b fits. break_lacks by b small fits) bs (recursion_from_All FitsBreak bs h)

-- ---- rows

pub row_exact : Exact FitsRow row_line row_in
unfolding row_in
row_exact = mapped_exact FitsRow row_line to_row (λ r. (r.shift, (r.day, (r.count, r.breaks))))
    (λ a h. (refl, (omega (arith, h.0), omega (arith, h.1.0), omega (arith, h.1.1.0), h.1.1.1)))
    (λ r h. (refl, refl, (omega (arith, h.0), (omega (arith, h.1), (omega (arith, h.2), h.3)))))
    (led_exact (codes "row ") (sides_exact 32 (number_below 65535 (omega arith)) (λ n h. decimal_lacks 32 n (omega arith) (omega arith))
    (sides_exact 32 (number_below 255 (omega arith)) (λ n h. decimal_lacks 32 n (omega arith) (omega arith))
    (sides_exact 32 (number_below 65535 (omega arith)) (λ n h. decimal_lacks 32 n (omega arith) (omega arith)) breaks_exact))))
