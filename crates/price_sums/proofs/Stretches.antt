-- What is earned with a break more: a stretch of work, and what is earned behind the break.
use Rattle.price_sums.proofs.Common.{◌≡◌, inl, inr, ℕ, zero, suc, ◌+◌, ◌-◌, ◌*◌, ◌<◌, ◌≤◌, ℤ, pos, ◌+ℤ◌, ◌-ℤ◌, Bool, true, false, cond, ◌&&◌, ◌||◌, ◌==◌, not, List, [], ◌∷◌, ◌++◌, refl, sym, ap, ◌∙◌, subst, arith, nat_le, nat_lt, fold, sum_by, FitsSigned, w64, unsigned_abs, ints, fits_signed_from_abs, Rule, abs_add, abs_sub, sum_at, price_in, AreSums, resumes, earned_from, Completes}
use Rattle.std.specs.List.{list_all, list_any, range_with_len}
use Rattle.std.proofs.lemmas.List.Sums.{fold-append}
use Rattle.std.proofs.lemmas.Bool.{and_parts, and_from, and_left, and_right, or_from, or_left, leb-true, le-leb, lt-leb, lt-ltb, le-ltb, ne_eqb, eqb-true, ltb-true, cases_Bool, cond-true, cond-false}
use Rattle.break_rules.specs.declared.Break.{Break}
use Rattle.break_rules.specs.Breaks.{end_of, is_legal, has_work, is_off, works_at, is_lunched, total_of}
use Rattle.break_rules.specs.Ranges.{IsRule}
use Rattle.break_rules.specs.Sums.{int_sum_by}
use Rattle.break_rules.specs.Walk.{end_of_all, may_follow, is_walk, is_walk_from, may_end}
use Rattle.break_rules.proofs.Lists.{from_range}
use Rattle.break_rules.proofs.Sums.{int_sum_by-cons, int_sum_by-append, int_sum_by-same, int_sum_by_zero}
use Rattle.break_rules.proofs.Walk.{legal_is_walk}
use Rattle.break_rules.proofs.Steps.{bounds}
use Rattle.break_rules.proofs.Reaching.{is_walk-append}

-- breaks that leave room to resettle
abbrev pub Spaced : Rule → ℕ → ℕ → List Break → Type 0
Spaced rule from len [] = from ≤ len
Spaced rule from len (b ∷ bs) = (from ≤ b.start) × Spaced rule (end_of b + rule.resettle) len bs

range-append : (a m n : ℕ) → range_with_len a (m + n) ≡ range_with_len a m ++ range_with_len (a + m) n
range-append a zero n = let e : zero + n ≡ n = omega arith in let f : a + zero ≡ a = omega arith in ap (range_with_len a) e ∙ ap (λ k. range_with_len k n) (sym f)
range-append a (suc m) n =
    let e : suc m + n ≡ suc (m + n) = omega arith in
    let f : a + 1 + m ≡ a + suc m = omega arith in
    ap (range_with_len a) e ∙ ap (λ zs. a ∷ zs) (range-append (a + 1) m n ∙ ap (λ k. range_with_len (a + 1) m ++ range_with_len k n) f)

-- a sum from one place to another is that up to a place between and that from there
sum_parts : (f : ℕ → ℤ) (a b c : ℕ) → a ≤ b → b ≤ c → int_sum_by f (range_with_len a (c - a)) ≡ int_sum_by f (range_with_len a (b - a)) +ℤ int_sum_by f (range_with_len b (c - b))
sum_parts f a b c p q =
    let e : c - a ≡ (b - a) + (c - b) = omega arith in
    let g : a + (b - a) ≡ b = omega arith in
    ap (λ n. int_sum_by f (range_with_len a n)) e ∙ ap (int_sum_by f) (range-append a (b - a) (c - b)) ∙ int_sum_by-append f (range_with_len a (b - a)) (range_with_len (a + (b - a)) (c - b))
    ∙ ap (λ k. int_sum_by f (range_with_len a (b - a)) +ℤ int_sum_by f (range_with_len k (c - b))) g

-- the prices of a stretch are the difference of two sums
over_range : (sums : List ℤ) (a n : ℕ) → int_sum_by (price_in sums) (range_with_len a n) ≡ sum_at sums (a + n) -ℤ sum_at sums a
over_range sums a zero = let e : a + zero ≡ a = omega arith in let f = ap (sum_at sums) e in omega (arith, ints)
over_range sums a (suc n) =
    let e : a + 1 + n ≡ a + suc n = omega arith in
    let f = ap (sum_at sums) e in
    let one : int_sum_by (price_in sums) (a ∷ range_with_len (a + 1) n) ≡ price_in sums a +ℤ int_sum_by (price_in sums) (range_with_len (a + 1) n) = int_sum_by-cons (price_in sums) a (range_with_len (a + 1) n) in
    let rest : int_sum_by (price_in sums) (range_with_len (a + 1) n) ≡ sum_at sums (a + 1 + n) -ℤ sum_at sums (a + 1) = over_range sums (a + 1) n in
    omega (arith, ints)

pub over_stretch : (sums : List ℤ) (a b : ℕ) → a ≤ b → int_sum_by (price_in sums) (range_with_len a (b - a)) ≡ sum_at sums b -ℤ sum_at sums a
over_stretch sums a b l = let e : a + (b - a) ≡ b = omega arith in over_range sums a (b - a) ∙ ap (λ k. sum_at sums k -ℤ sum_at sums a) e

-- no break is on before the first one begins
none_on : (rule : Rule) (from len o : ℕ) (list : List Break) → Spaced rule from len list → o < from → list_any (is_off rule o) list ≡ false
none_on rule from len o [] s h = refl
none_on rule from len o (b ∷ bs) s h =
    let begins : from ≤ b.start = s.0 in
    or_from (is_off rule o b) (list_any (is_off rule o) bs)
    (and_left (nat_le b.start o) (nat_lt o (end_of b + rule.resettle)) (lt-leb b.start o (omega arith)))
    (none_on rule (end_of b + rule.resettle) len o bs s.1 (omega arith))

pub within_len : (rule : Rule) (from len : ℕ) (list : List Break) → Spaced rule from len list → from ≤ len
within_len rule from len [] s = s
within_len rule from len (b ∷ bs) s = let rest : end_of b + rule.resettle ≤ len = within_len rule (end_of b + rule.resettle) len bs s.1 in let first : from ≤ b.start = s.0 in omega arith

-- what is earned where no break is left
pub earned_end : (sums : List ℤ) (rule : Rule) (len from : ℕ) → from ≤ len → earned_from (price_in sums) rule len from [] ≡ sum_at sums len -ℤ sum_at sums from
earned_end sums rule len from l =
    int_sum_by-same (λ o. cond (works_at rule len [] o) (price_in sums o) (pos 0)) (price_in sums) (range_with_len from (len - from)) (λ o m.
    let r : o < from + (len - from) = (from_range from (len - from) o m).1 in
    ap (λ t. cond t (price_in sums o) (pos 0)) (and_from (nat_lt o len) true (lt-ltb o len (omega arith)) refl))
    ∙ over_stretch sums from len l

-- what is earned where a break comes first
pub earned_more : (sums : List ℤ) (rule : Rule) (len from : ℕ) (b : Break) (bs : List Break) → Spaced rule from len (b ∷ bs)
    → earned_from (price_in sums) rule len from (b ∷ bs) ≡ (sum_at sums b.start -ℤ sum_at sums from) +ℤ earned_from (price_in sums) rule len (end_of b + rule.resettle) bs
earned_more sums rule len from b bs s =
    let back = end_of b + rule.resettle in
    let inside : back ≤ len = within_len rule back len bs s.1 in
    let first : from ≤ b.start = s.0 in
    let g : ℕ → ℤ = λ o. cond (works_at rule len (b ∷ bs) o) (price_in sums o) (pos 0) in
    let h : ℕ → ℤ = λ o. cond (works_at rule len bs o) (price_in sums o) (pos 0) in
    let one : int_sum_by g (range_with_len from (len - from)) ≡ int_sum_by g (range_with_len from (b.start - from)) +ℤ int_sum_by g (range_with_len b.start (len - b.start)) = sum_parts g from b.start len first (omega arith) in
    let two : int_sum_by g (range_with_len b.start (len - b.start)) ≡ int_sum_by g (range_with_len b.start (back - b.start)) +ℤ int_sum_by g (range_with_len back (len - back)) = sum_parts g b.start back len (omega arith) inside in
    let before : int_sum_by g (range_with_len from (b.start - from)) ≡ sum_at sums b.start -ℤ sum_at sums from =
    int_sum_by-same g (price_in sums) (range_with_len from (b.start - from)) (λ o m.
    let r : o < from + (b.start - from) = (from_range from (b.start - from) o m).1 in
    ap (λ t. cond t (price_in sums o) (pos 0)) (and_from (nat_lt o len) (not (list_any (is_off rule o) (b ∷ bs))) (lt-ltb o len (omega arith))
    (ap not (or_from (is_off rule o b) (list_any (is_off rule o) bs)
    (and_left (nat_le b.start o) (nat_lt o back) (lt-leb b.start o (omega arith)))
    (none_on rule back len o bs s.1 (omega arith))))))
    ∙ over_stretch sums from b.start first in
    let during : int_sum_by g (range_with_len b.start (back - b.start)) ≡ pos 0 =
    int_sum_by-same g (λ o. pos 0) (range_with_len b.start (back - b.start)) (λ o m.
    let r = from_range b.start (back - b.start) o m in
    ap (λ t. cond t (price_in sums o) (pos 0)) (and_right (nat_lt o len) (not (list_any (is_off rule o) (b ∷ bs)))
    (ap not (or_left (is_off rule o b) (list_any (is_off rule o) bs)
    (and_from (nat_le b.start o) (nat_lt o back) (le-leb b.start o r.0) (lt-ltb o back (omega (arith, r.1))))))))
    ∙ int_sum_by_zero (range_with_len b.start (back - b.start)) in
    let after : int_sum_by g (range_with_len back (len - back)) ≡ int_sum_by h (range_with_len back (len - back)) =
    int_sum_by-same g h (range_with_len back (len - back)) (λ o m.
    let r = from_range back (len - back) o m in
    ap (λ t. cond (nat_lt o len && not (t || list_any (is_off rule o) bs)) (price_in sums o) (pos 0)) (and_right (nat_le b.start o) (nat_lt o back) (le-ltb o back r.0))) in
    omega (arith, ints)

-- a walk's rest leaves room to resettle
spaced_walk : (rule : Rule) (len offset used skip : ℕ) (rest : List Break) → IsRule rule → skip ≤ rule.resettle → is_walk_from rule len offset used rest ≡ true
    → fold (λ at b. end_of b) offset rest ≤ len → has_work rule (fold (λ at b. end_of b) offset rest, len) ≡ true → Spaced rule (offset + skip) len rest
spaced_walk rule len offset used skip [] r k h i w =
    let p = and_parts (nat_le rule.work_min (len - offset)) (nat_le (len - offset) rule.work_max) w in
    let long : rule.work_min ≤ len - offset = leb-true _ _ p.0 in
    omega (arith, r.resettles_in_work)
spaced_walk rule len offset used skip (b ∷ bs) r k h i w =
    let p = and_parts (may_follow rule len offset used b) (is_walk_from rule len (end_of b) (used + b.len) bs) h in
    let f = bounds rule len offset used b p.0 in
    (omega (arith, r.resettles_in_work, f.least_work, f.later), spaced_walk rule len (end_of b) (used + b.len) rule.resettle bs r (omega arith) p.1 i w)

-- the offset where work counts again lies no further than the resettling slots behind
pub resumes_skip : (rule : Rule) (offset : ℕ) → (skip : ℕ) × (skip ≤ rule.resettle) × (resumes rule offset ≡ offset + skip)
resumes_skip rule offset = by (offset == 0) refl
  where
    by : (t : Bool) → (offset == 0) ≡ t → (skip : ℕ) × (skip ≤ rule.resettle) × (resumes rule offset ≡ offset + skip)
    by true e = (0, omega arith, ap (λ t. cond t 0 (offset + rule.resettle)) e ∙ (let z : offset ≡ 0 = eqb-true offset 0 e in let y : 0 ≡ offset + 0 = omega arith in y))
    by false e = (rule.resettle, omega arith, ap (λ t. cond t 0 (offset + rule.resettle)) e)

pub spaced_rest : (rule : Rule) (len : ℕ) (list rest : List Break) → IsRule rule → Completes rule len list rest → Spaced rule (resumes rule (end_of_all list)) len rest
spaced_rest rule len list rest r h =
    let p = and_parts (is_walk rule len (list ++ rest)) (may_end rule len (list ++ rest)) (sym (legal_is_walk rule len (list ++ rest)) ∙ h) in
    let w = and_parts (is_walk rule len list) (is_walk_from rule len (end_of_all list) (sum_by (λ b. b.len) list) rest) (sym (is_walk-append rule len list rest) ∙ p.0) in
    let end = end_of_all (list ++ rest) in
    let p3 = and_parts (nat_le end len && has_work rule (end, len) && (sum_by (λ b. b.len) (list ++ rest) == total_of rule len)) (list_all (is_lunched len (list ++ rest)) rule.lunches) p.1 in
    let p2 = and_parts (nat_le end len && has_work rule (end, len)) (sum_by (λ b. b.len) (list ++ rest) == total_of rule len) p3.0 in
    let p1 = and_parts (nat_le end len) (has_work rule (end, len)) p2.0 in
    let last : end ≡ fold (λ at b. end_of b) (end_of_all list) rest = fold-append (λ (at : ℕ) (b : Break). end_of b) 0 list rest in
    let s = resumes_skip rule (end_of_all list) in
    subst (λ k. Spaced rule k len rest) (sym s.2)
    (spaced_walk rule len (end_of_all list) (sum_by (λ b. b.len) list) s.0 rest r s.1 w.1
    (subst (λ k. k ≤ len) last (leb-true _ _ p1.0)) (subst (λ k. has_work rule (k, len) ≡ true) last p1.1))

-- behind a break work counts again after the resettling slots
pub resumes_behind : (rule : Rule) (offset : ℕ) → 0 < offset → resumes rule offset ≡ offset + rule.resettle
resumes_behind rule offset h = ap (λ t. cond t 0 (offset + rule.resettle)) (ne_eqb offset 0 (λ e. let z : offset ≡ 0 = e in omega arith))

-- sums of small prices are small
sum_small : (f : ℕ → ℤ) (a n m : ℕ) → ((o : ℕ) → o < a + n → unsigned_abs (f o) ≤ m) → unsigned_abs (int_sum_by f (range_with_len a n)) ≤ m * n
sum_small f a zero m h = omega arith
sum_small f a (suc n) m h =
    let rest : unsigned_abs (int_sum_by f (range_with_len (a + 1) n)) ≤ m * n = sum_small f (a + 1) n m (λ o l. h o (omega arith)) in
    let one : int_sum_by f (a ∷ range_with_len (a + 1) n) ≡ f a +ℤ int_sum_by f (range_with_len (a + 1) n) = int_sum_by-cons f a (range_with_len (a + 1) n) in
    let both = abs_add (f a) (int_sum_by f (range_with_len (a + 1) n)) m (m * n) (h a (omega arith)) rest in
    let same = ap unsigned_abs one in
    let product : m * suc n ≡ m + m * n = omega arith in
    omega arith

-- what is earned is small
pub earned_small : (sums : List ℤ) (rule : Rule) (len from : ℕ) (rest : List Break) → AreSums len sums → unsigned_abs (earned_from (price_in sums) rule len from rest) ≤ 10000000000 * (len - from)
earned_small sums rule len from rest s = sum_small (λ o. cond (works_at rule len rest o) (price_in sums o) (pos 0)) from (len - from) 10000000000 (λ o l. at o)
  where
    at : (o : ℕ) → unsigned_abs (cond (works_at rule len rest o) (price_in sums o) (pos 0)) ≤ 10000000000
    at o =
        elim (cases_Bool (works_at rule len rest o)) [
          | inl t ↦
              let inside : o < len = ltb-true o len (and_parts (nat_lt o len) (not (list_any (is_off rule o) rest)) t).0 in
              subst (λ (z : ℤ). unsigned_abs z ≤ 10000000000) (sym (cond-true _ (price_in sums o) (pos 0) t)) (s.small o inside)
          | inr f ↦ subst (λ (z : ℤ). unsigned_abs z ≤ 10000000000) (sym (cond-false _ (price_in sums o) (pos 0) f)) (omega arith)
        ]

-- the sum of the stretches before some breaks, and what is earned from there on
module _ (sums : List ℤ) (rule : Rule) (len : ℕ) (whole : ℤ) (s : AreSums len sums) (small : unsigned_abs whole ≤ 10000000000 * 65535) where
  pub difference_fits : (a b : ℕ) → FitsSigned w64 (sum_at sums a -ℤ sum_at sums b)
  difference_fits a b =
      let both = abs_sub (sum_at sums a) (sum_at sums b) (10000000000 * 65536) (10000000000 * 65536) (s.size a) (s.size b) in
      fits_signed_from_abs w64 (sum_at sums a -ℤ sum_at sums b) (omega arith)

  pub whole_fits : FitsSigned w64 whole
  whole_fits = fits_signed_from_abs w64 whole (omega arith)

  pub sum_more : (sum : ℤ) (from : ℕ) (b : Break) (bs : List Break) → Spaced rule from len (b ∷ bs) → sum +ℤ earned_from (price_in sums) rule len from (b ∷ bs) ≡ whole
      → (sum +ℤ (sum_at sums b.start -ℤ sum_at sums from)) +ℤ earned_from (price_in sums) rule len (end_of b + rule.resettle) bs ≡ whole
  sum_more sum from b bs spaced is =
      let more : earned_from (price_in sums) rule len from (b ∷ bs) ≡ (sum_at sums b.start -ℤ sum_at sums from) +ℤ earned_from (price_in sums) rule len (end_of b + rule.resettle) bs = earned_more sums rule len from b bs spaced in
      omega (arith, ints)

  pub sum_fits : (sum : ℤ) (from : ℕ) (list : List Break) → sum +ℤ earned_from (price_in sums) rule len from list ≡ whole → FitsSigned w64 sum
  sum_fits sum from list is =
      let rest = earned_small sums rule len from list s in
      let short : len ≤ 65535 = s.short in
      let few : unsigned_abs (earned_from (price_in sums) rule len from list) ≤ 10000000000 * 65535 = omega arith in
      let both = abs_sub whole (earned_from (price_in sums) rule len from list) (10000000000 * 65535) (10000000000 * 65535) small few in
      let back : whole -ℤ earned_from (price_in sums) rule len from list ≡ sum = omega (arith, ints) in
      subst (FitsSigned w64) back (fits_signed_from_abs w64 (whole -ℤ earned_from (price_in sums) rule len from list) (omega arith))

  pub sum_last : (sum : ℤ) (from : ℕ) → from ≤ len → sum +ℤ earned_from (price_in sums) rule len from [] ≡ whole → sum +ℤ (sum_at sums len -ℤ sum_at sums from) ≡ whole
  sum_last sum from inside is =
      let end : earned_from (price_in sums) rule len from [] ≡ sum_at sums len -ℤ sum_at sums from = earned_end sums rule len from inside in
      omega (arith, ints)

pub earned_size : (sums : List ℤ) (rule : Rule) (len from : ℕ) (rest : List Break) → AreSums len sums → unsigned_abs (earned_from (price_in sums) rule len from rest) ≤ 10000000000 * 65535
earned_size sums rule len from rest s = let own = earned_small sums rule len from rest s in let short : len ≤ 65535 = s.short in omega arith

-- a legal list leaves room to resettle
pub spaced_list : (rule : Rule) (len : ℕ) (list : List Break) → IsRule rule → is_legal rule len list ≡ true → Spaced rule 0 len list
spaced_list rule len list r h = spaced_rest rule len [] list r h
