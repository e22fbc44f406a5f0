-- The breaks that are left, one step on.
use Rattle.break_rules.proofs.Common.{◌≡◌, inl, inr, ℕ, zero, suc, ◌+◌, ◌-◌, ◌<◌, ◌≤◌, Bool, true, false, [], ◌∷◌, ◌++◌, map, filter, sym, ap, ◌∙◌, arith, flat_map, range_with_len, cases_lt, cond-true, cond-false, Break, breaks_between, breaks_left}

-- a range that isn't empty
range_more : (a n m : ℕ) → n ≡ suc m → range_with_len a n ≡ a ∷ range_with_len (a + 1) m
range_more a n m e = ap (range_with_len a) e

abbrev pub at_start : ℕ → ℕ → Break
at_start start size = record { start = start; len = size }

pub left_more : (start size len : ℕ) → start + size ≤ len → breaks_left start size len ≡ at_start start size ∷ breaks_left start (size + 1) len
left_more start size len h =
    ap (λ ns. map (at_start start) ns ++ breaks_between (start + 1) len) (range_more size (len + 1 - (start + size)) (len + 1 - (start + (size + 1))) (omega arith))

between_first : (from len : ℕ) → breaks_between from len ≡ breaks_left from 1 len
between_first from len =
    elim (cases_lt from len) [
      | inl l ↦
          let whole : range_with_len from (len - from) ≡ from ∷ range_with_len (from + 1) (len - (from + 1)) = range_more from (len - from) (len - (from + 1)) (omega arith) in
          ap (flat_map (λ start. map (at_start start) (range_with_len 1 (len - start)))) whole
          ∙ ap (λ n. map (at_start from) (range_with_len 1 n) ++ breaks_between (from + 1) len) (let e : len - from ≡ len + 1 - (from + 1) = omega arith in e)
      | inr g ↦
          ap (λ n. flat_map (λ start. map (at_start start) (range_with_len 1 (len - start))) (range_with_len from n)) (let e : len - from ≡ zero = omega arith in e)
          ∙ sym (ap (λ n. map (at_start from) (range_with_len 1 n) ++ breaks_between (from + 1) len) (let e : len + 1 - (from + 1) ≡ zero = omega arith in e)
          ∙ ap (λ n. flat_map (λ start. map (at_start start) (range_with_len 1 (len - start))) (range_with_len (from + 1) n)) (let e : len - (from + 1) ≡ zero = omega arith in e))
    ]

pub left_first : (from len : ℕ) → breaks_left from 1 len ≡ breaks_between from len
left_first from len = sym (between_first from len)

pub left_next : (start size len : ℕ) → len < start + size → breaks_left start size len ≡ breaks_left (start + 1) 1 len
left_next start size len h =
    ap (λ n. map (at_start start) (range_with_len size n) ++ breaks_between (start + 1) len) (let e : len + 1 - (start + size) ≡ zero = omega arith in e)
    ∙ between_first (start + 1) len

pub filter_left_yes : (p : Break → Bool) (start size len : ℕ) → start + size ≤ len → p (at_start start size) ≡ true → filter p (breaks_left start size len) ≡ at_start start size ∷ filter p (breaks_left start (size + 1) len)
filter_left_yes p start size len h e = ap (filter p) (left_more start size len h) ∙ cond-true (p (at_start start size)) _ _ e

pub filter_left_no : (p : Break → Bool) (start size len : ℕ) → start + size ≤ len → p (at_start start size) ≡ false → filter p (breaks_left start size len) ≡ filter p (breaks_left start (size + 1) len)
filter_left_no p start size len h e = ap (filter p) (left_more start size len h) ∙ cond-false (p (at_start start size)) _ _ e

-- sizes at which no break passes are skipped
pub skip_sizes : (p : Break → Bool) (start size count len : ℕ) → ((k : ℕ) → size ≤ k → k < size + count → p (at_start start k) ≡ false)
    → filter p (breaks_left start size len) ≡ filter p (breaks_left start (size + count) len)
skip_sizes p start size zero len h = ap (λ n. filter p (breaks_left start n len)) (let e : size ≡ size + zero = omega arith in e)
skip_sizes p start size (suc count) len h =
    elim (cases_lt len (start + size)) [
      | inl over ↦
          ap (filter p) (left_next start size len over ∙ sym (left_next start (size + suc count) len (omega arith)))
      | inr fits ↦
          filter_left_no p start size len fits (h size (omega arith) (omega arith))
          ∙ skip_sizes p start (size + 1) count len (λ k low high. h k (omega arith) (omega arith))
          ∙ ap (λ n. filter p (breaks_left start n len)) (let e : size + 1 + count ≡ size + suc count = omega arith in e)
    ]

-- where no break of a start passes from a size on, the next start comes
pub skip_rest : (p : Break → Bool) (start size len : ℕ) → ((k : ℕ) → size ≤ k → k ≤ len → p (at_start start k) ≡ false)
    → filter p (breaks_left start size len) ≡ filter p (breaks_between (start + 1) len)
skip_rest p start size len h =
    skip_sizes p start size (len + 1 - size) len (λ k low high. h k low (omega arith))
    ∙ ap (filter p) (left_next start (size + (len + 1 - size)) len (omega arith) ∙ left_first (start + 1) len)

-- starts at which no break passes are skipped
pub skip_starts : (p : Break → Bool) (from count len : ℕ) → ((b : Break) → from ≤ b.start → b.start < from + count → p b ≡ false)
    → filter p (breaks_between from len) ≡ filter p (breaks_between (from + count) len)
skip_starts p from zero len h = ap (λ n. filter p (breaks_between n len)) (let e : from ≡ from + zero = omega arith in e)
skip_starts p from (suc count) len h =
    ap (filter p) (between_first from len)
    ∙ skip_rest p from 1 len (λ k low high. h (at_start from k) (omega arith) (omega arith))
    ∙ skip_starts p (from + 1) count len (λ b low high. h b (omega arith) (omega arith))
    ∙ ap (λ n. filter p (breaks_between n len)) (let e : from + 1 + count ≡ from + suc count = omega arith in e)

-- where no break passes from a start on, none is left
pub none_between : (p : Break → Bool) (from len : ℕ) → ((b : Break) → from ≤ b.start → p b ≡ false) → filter p (breaks_between from len) ≡ []
none_between p from len h =
    skip_starts p from len len (λ b low high. h b low)
    ∙ ap (λ n. filter p (flat_map (λ start. map (at_start start) (range_with_len 1 (len - start))) (range_with_len (from + len) n))) (let e : len - (from + len) ≡ zero = omega arith in e)

pub none_left : (p : Break → Bool) (start size len : ℕ) → ((b : Break) → start ≤ b.start → p b ≡ false) → filter p (breaks_left start size len) ≡ []
none_left p start size len h =
    skip_rest p start size len (λ k low high. h (at_start start k) (omega arith))
    ∙ none_between p (start + 1) len (λ b low. h b (omega arith))

-- the breaks of a start from a least size on, where no smaller one passes
pub from_size : (p : Break → Bool) (start size len : ℕ) → 1 ≤ size → ((k : ℕ) → k < size → p (at_start start k) ≡ false)
    → filter p (breaks_between start len) ≡ filter p (breaks_left start size len)
from_size p start size len low h =
    ap (filter p) (between_first start len)
    ∙ skip_sizes p start 1 (size - 1) len (λ k a b. h k (omega arith))
    ∙ ap (λ n. filter p (breaks_left start n len)) (let e : 1 + (size - 1) ≡ size = omega arith in e)
