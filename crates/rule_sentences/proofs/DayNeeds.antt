-- The least and the greatest of needs, and their sum, with one need more.
use Rattle.std.proofs.Common.{◌≡◌, inl, inr, ℕ, zero, suc, ◌+◌, ◌*◌, ◌<◌, ◌≤◌, Option, Some, List, [], ◌∷◌, ◌++◌, min, max, map, sum, length, refl, sym, ap, ◌∙◌, subst, arith, add-zero}
use Rattle.std.specs.Prelude.{IsSomeAnd, slice_get}
use Rattle.std.specs.List.{range_with_len}
use Rattle.std.proofs.lemmas.Bool.{cases_lt}
use Rattle.std.proofs.lemmas.List.FromFn.{map-range_with_len_more}
use Rattle.std.proofs.lemmas.List.Sums.{sum_by-cons, sum_by_push}
use Rattle.break_rules.specs.Lists.{Has}
use Rattle.break_rules.proofs.Lists.{Has-append_left, Has-append_right, Has-append_cases}
use Rattle.rule_sentences.specs.declared.needs.DayNeed.{DayNeed}
use Rattle.rule_sentences.specs.declared.needs.NeedRange.{NeedRange}
use Rattle.rule_sentences.specs.Needs.{IsRangeOf}

pub one_more : (needs : List ℕ) (d e : NeedRange) (n : ℕ) → IsRangeOf needs d → e.least ≡ min d.least n → e.greatest ≡ max d.greatest n → e.wanted ≡ d.wanted + n → IsRangeOf (needs ++ n ∷ []) e
one_more needs d e n h low high all = record {
  least = λ m at. elim (Has-append_cases needs (n ∷ []) m at) [
    | inl old ↦ (let z : d.least ≤ m = h.least m old in omega arith)
    | inr new ↦ elim new [ inl s ↦ (let z : n ≡ m = s in omega arith) | inr none ↦ absurd none ]
  ];
  some_least = elim (cases_lt d.least n) [
    | inl less ↦ subst (λ (k : ℕ). Has (needs ++ n ∷ []) k) (let z : d.least ≡ e.least = omega arith in z) (Has-append_left needs (n ∷ []) d.least h.some_least)
    | inr more ↦ subst (λ (k : ℕ). Has (needs ++ n ∷ []) k) (let z : n ≡ e.least = omega arith in z) (Has-append_right needs (n ∷ []) n (inl refl))
  ];
  greatest = λ m at. elim (Has-append_cases needs (n ∷ []) m at) [
    | inl old ↦ (let z : m ≤ d.greatest = h.greatest m old in omega arith)
    | inr new ↦ elim new [ inl s ↦ (let z : n ≡ m = s in omega arith) | inr none ↦ absurd none ]
  ];
  some_greatest = elim (cases_lt d.greatest n) [
    | inl less ↦ subst (λ (k : ℕ). Has (needs ++ n ∷ []) k) (let z : n ≡ e.greatest = omega arith in z) (Has-append_right needs (n ∷ []) n (inl refl))
    | inr more ↦ subst (λ (k : ℕ). Has (needs ++ n ∷ []) k) (let z : d.greatest ≡ e.greatest = omega arith in z) (Has-append_left needs (n ∷ []) d.greatest h.some_greatest)
  ];
  wanted = all ∙ ap (λ (k : ℕ). k + n) h.wanted ∙ sym (sum_by_push (λ (x : ℕ). x) needs n);
}

-- the need of the first slots of a day, with one slot more
pub record Next (f : ℕ → ℕ) (first offset : ℕ) (e : NeedRange) : Type 0 where
  pub is : IsRangeOf (map f (range_with_len first (offset + 1))) e
  pub few : e.wanted ≤ (offset + 1) * 10000

pub next_need : (f : ℕ → ℕ) (first offset need : ℕ) (d e : NeedRange) → IsRangeOf (map f (range_with_len first offset)) d → d.wanted ≤ offset * 10000 → need ≡ f (first + offset) → need ≤ 10000
    → ((needs : List ℕ) → IsRangeOf needs d → IsRangeOf (needs ++ need ∷ []) e) → Next f first offset e
next_need f first offset need d e h few is small more =
    let xs : List ℕ = map f (range_with_len first offset) in
    let next : IsRangeOf (xs ++ need ∷ []) e = more xs h in
    let all : e.wanted ≡ sum xs + need = next.wanted ∙ sum_by_push (λ (x : ℕ). x) xs need in
    let before : d.wanted ≡ sum xs = h.wanted in
    let low : e.wanted ≤ (offset + 1) * 10000 = small_sum e.wanted d.wanted (sum xs) need offset all before few small in
    record {
      is = subst (λ (ys : List ℕ). IsRangeOf ys e) (ap (λ (n : ℕ). xs ++ n ∷ []) is ∙ sym (map-range_with_len_more f first offset (first + offset) refl)) next;
      few = low;
    }
  where
    small_sum : (a b c n k : ℕ) → a ≡ c + n → b ≡ c → b ≤ k * 10000 → n ≤ 10000 → a ≤ (k + 1) * 10000
    small_sum a b c n k e f g h = omega arith
