-- Sums over slots whose counts change one at a time.
use Rattle.rota_cost.proofs.Common.{◌≡◌, inl, inr, ℕ, zero, suc, ◌+◌, ◌-◌, ◌*◌, ◌<◌, ◌≤◌, List, length, get_or, set, sym, ap, ◌∙◌, arith, sum_by, add-one, get_or-set_same, get_or-set_other, mul-le-mul, mul-le-mul_right, cases_eq, length-range_with_len, sum_by_same, from_below, Problem, slots, need_at, need_max_at, below, slot_cost, IsValid, slots_cost, sum_below_more}
use Rattle.rota_cost.proofs.Coverage.{sum_few}

-- one of the numbers that are summed is no more than the sum
pub sum_below_at : (f : ℕ → ℕ) (n t : ℕ) → t < n → f t ≤ sum_by f (below n)
sum_below_at f zero t small = absurd (omega arith)
sum_below_at f (suc n) t small =
    let more : sum_by f (below (suc n)) ≡ sum_by f (below n) + f n = ap (λ (k : ℕ). sum_by f (below k)) (sym (add-one n)) ∙ sum_below_more f n in
    elim (cases_eq t n) [
      | inl e ↦ let same : f t ≡ f n = ap f e in omega arith
      | inr ne ↦ let rest : f t ≤ sum_by f (below n) = sum_below_at f n t (omega arith) in omega arith
    ]

-- a sum after one of its counts is written
pub sum_below_set : (f : ℕ → ℕ → ℕ) (xs : List ℕ) (n t v : ℕ) → t < n → t < length xs → sum_by (λ s. f s (get_or (set xs t v) s 0)) (below n) + f t (get_or xs t 0) ≡ sum_by (λ s. f s (get_or xs s 0)) (below n) + f t v
sum_below_set f xs zero t v small room = absurd (omega arith)
sum_below_set f xs (suc n) t v small room =
    let g : ℕ → ℕ = λ s. f s (get_or (set xs t v) s 0) in
    let h : ℕ → ℕ = λ s. f s (get_or xs s 0) in
    let a : sum_by g (below (suc n)) ≡ sum_by g (below n) + g n = ap (λ (k : ℕ). sum_by g (below k)) (sym (add-one n)) ∙ sum_below_more g n in
    let b : sum_by h (below (suc n)) ≡ sum_by h (below n) + h n = ap (λ (k : ℕ). sum_by h (below k)) (sym (add-one n)) ∙ sum_below_more h n in
    elim (cases_eq t n) [
      | inl e ↦
          let here : g n ≡ f t v = ap g (sym e) ∙ ap (f t) (get_or-set_same xs t v 0 room) in
          let there : h n ≡ f t (get_or xs t 0) = ap h (sym e) in
          let rest : sum_by g (below n) ≡ sum_by h (below n) = sum_by_same g h (below n) (λ s m. ap (f s) (get_or-set_other xs t s v 0 (λ q. let low : s < n = from_below n s m in absurd (omega arith)))) in
          omega arith
      | inr ne ↦
          let same : g n ≡ h n = ap (f n) (get_or-set_other xs t n v 0 (λ q. ne (sym q))) in
          let rest : sum_by g (below n) + f t (get_or xs t 0) ≡ sum_by h (below n) + f t v = sum_below_set f xs n t v (omega arith) room in
          omega arith
    ]

-- what a slot costs at most
slot_most : (i : Problem) (t c most : ℕ) → IsValid i → t < slots i → c ≤ most → slot_cost i t c ≤ 1000000 * most + 10000000000
slot_most i t c most valid small few =
    let w : need_at i t ≤ 10000 = valid.need_limit t 0 (let l : length i.need ≡ slots i = valid.need_length in omega arith) in
    let a : i.excess * (c - need_max_at i t) ≤ 1000000 * most = mul-le-mul valid.excess (let k : c - need_max_at i t ≤ most = omega arith in k) in
    let b : i.shortage * (need_at i t - c) ≤ 1000000 * 10000 = mul-le-mul valid.shortage (let k : need_at i t - c ≤ 10000 = omega arith in k) in
    omega arith

-- what the slots cost together at most
pub slots_most : (i : Problem) (counts : List ℕ) (most : ℕ) → IsValid i → ((t : ℕ) → t < slots i → get_or counts t 0 ≤ most) → slots_cost i counts ≤ 2016 * (1000000 * most + 10000000000)
slots_most i counts most valid few =
    let f : ℕ → ℕ = λ t. slot_cost i t (get_or counts t 0) in
    let all = below (slots i) in
    let a : sum_by f all ≤ length all * (1000000 * most + 10000000000) = sum_few f (1000000 * most + 10000000000) all (λ t m. slot_most i t (get_or counts t 0) most valid (from_below (slots i) t m) (few t (from_below (slots i) t m))) in
    let l : length all ≡ slots i = length-range_with_len 0 (slots i) in
    let n : slots i ≤ 2016 = valid.few_slots in
    let ln : length all ≤ 2016 = omega arith in
    let b : length all * (1000000 * most + 10000000000) ≤ 2016 * (1000000 * most + 10000000000) = mul-le-mul_right (1000000 * most + 10000000000) ln in
    omega arith
