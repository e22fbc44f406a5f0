-- What duties are worth at prices of 1 for all slots.
use Rattle.short_slots.proofs.Common.{◌≡◌, ◌⊎◌, inl, inr, max, to_z, of_z, w64, ℕ, ◌+◌, ◌<◌, ◌≤◌, ℤ, pos, ◌+ℤ◌, ◌≤ℤ◌, Bool, true, false, cond, nat_lt, List, [], ◌∷◌, length, get_or, refl, sym, ap, ◌∙◌, subst, arith, count_by, unsigned_abs, cases_lt, false≢true, and_from, lt-ltb, sum_by-cons, Break, from_below, Duty, Problem, slots, shift_list, below, works, is_list_of, is_legal_duty, legal_duty_parts, AreMostByDay, IsMostOn, worked_slots, ones, IsMostOf, IsMostWorked}
use Rattle.std.proofs.lemmas.Int.{ints, fits_signed_from_abs, to_z-of_z}
use Rattle.std.proofs.lemmas.List.{get_or-replicate}
use Rattle.std.proofs.lemmas.List.FromFn.{length-range_with_len}
use Rattle.std.proofs.lemmas.List.Elements.{All-replicate}
use Rattle.break_rules.specs.Sums.{int_sum_by}
use Rattle.break_rules.proofs.Sums.{int_sum_by-same, int_sum_by-cons}
use Rattle.price_sums.specs.Along.{AreSmallPrices}
use Rattle.shift_instance.specs.Valid.{IsValid}
use Rattle.shift_instance.specs.Worth.{price_of, earned, worth, IsBest}

counted : (f : ℕ → Bool) (xs : List ℕ) → int_sum_by (λ t. pos (cond (f t) 1 0)) xs ≡ pos (count_by f xs)
counted f [] = refl
counted f (x ∷ xs) = int_sum_by-cons (λ t. pos (cond (f t) 1 0)) x xs ∙ ap (λ z. pos (cond (f x) 1 0) +ℤ z) (counted f xs) ∙ ap pos (sym (sum_by-cons (λ t. cond (f t) 1 0) x xs))

earned_ones : (i : Problem) (d : Duty) → earned i (ones i) d ≡ pos (worked_slots i d)
earned_ones i d =
    int_sum_by-same (λ t. cond (works i d t) (price_of (ones i) t) (pos 0)) (λ t. pos (cond (works i d t) 1 0)) (below (slots i))
    (λ t m. ap (λ z. cond (works i d t) z (pos 0)) (get_or-replicate (slots i) t (pos 1) (pos 0) (from_below (slots i) t m)) ∙ each (works i d t))
    ∙ counted (λ t. works i d t) (below (slots i))
  where
    each : (b : Bool) → cond b (pos 1) (pos 0) ≡ pos (cond b 1 0)
    each true = refl
    each false = refl

worth_ones : (i : Problem) (d : Duty) → worth i (ones i) [] d ≡ pos (worked_slots i d)
worth_ones i d = no_more (earned i (ones i) d) ∙ earned_ones i d
  where
    no_more : (z : ℤ) → z +ℤ pos 0 ≡ z
    no_more z = omega (arith, ints)

-- a duty of a shift on a day with a break list
abbrev with : ℕ → ℕ → List Break → Duty
with s day list = record { shift = s; day = day; breaks = list }

-- the value of a best list is in how many slots its duty works, and no duty of the shift and day works in more
best_is : (i : Problem) (s day : ℕ) (list : List Break) (value : ℤ) → IsBest i s day (ones i) [] list value → unsigned_abs value ≡ worked_slots i (with s day list)
best_is i s day list value b = ap unsigned_abs (b.is_worth ∙ worth_ones i (with s day list))

best_most : (i : Problem) (s day : ℕ) (list other : List Break) (value : ℤ) → IsBest i s day (ones i) [] list value → is_list_of i s other ≡ true → worked_slots i (with s day other) ≤ unsigned_abs value
best_most i s day list other value b legal =
    small (worked_slots i (with s day other)) (worked_slots i (with s day list)) (unsigned_abs value)
    (subst (λ (z : ℤ). pos (worked_slots i (with s day other)) ≤ℤ z) (b.is_worth ∙ worth_ones i (with s day list)) (subst (λ (z : ℤ). z ≤ℤ value) (worth_ones i (with s day other)) (b.greatest other legal)))
    (best_is i s day list value b)
  where
    small : (m n k : ℕ) → pos m ≤ℤ pos n → k ≡ n → m ≤ k
    small m n k h e = omega (arith, ints)

-- the greatest of a shift's values is the most that its duties work
pub most_of_values : (i : Problem) (s most : ℕ) (values : List ℤ) → AreMostByDay i s (ones i) i.days values
    → ((day : ℕ) → day < i.days → unsigned_abs (get_or values day (pos 0)) ≤ most)
    → ((n : ℕ) → ((day : ℕ) → day < i.days → unsigned_abs (get_or values day (pos 0)) ≤ n) → most ≤ n)
    → IsMostOf i s most
most_of_values i s most values by each least = record {
  each = λ d legal of. let l = legal_duty_parts i d legal in
      let m : IsMostOn i s d.day (ones i) (get_or values d.day (pos 0)) = by.each d.day l.day in
      let listed : is_list_of i s d.breaks ≡ true = subst (λ (k : ℕ). is_list_of i k d.breaks ≡ true) of l.breaks in
      let most_on : worked_slots i (with s d.day d.breaks) ≤ unsigned_abs (get_or values d.day (pos 0)) = best_most i s d.day m.0 d.breaks (get_or values d.day (pos 0)) m.1 listed in
      let here : worked_slots i (with s d.day d.breaks) ≡ worked_slots i d = ap (λ (k : ℕ). worked_slots i (with k d.day d.breaks)) (sym of) in
      let up : unsigned_abs (get_or values d.day (pos 0)) ≤ most = each d.day l.day in
      chained (worked_slots i d) (worked_slots i (with s d.day d.breaks)) (unsigned_abs (get_or values d.day (pos 0))) most here most_on up;
  least = λ n above. least n (λ day h.
      let m : IsMostOn i s day (ones i) (get_or values day (pos 0)) = by.each day h in
      let is : unsigned_abs (get_or values day (pos 0)) ≡ worked_slots i (with s day m.0) = best_is i s day m.0 (get_or values day (pos 0)) m.1 in
      let b : IsBest i s day (ones i) [] m.0 (get_or values day (pos 0)) = m.1 in
      let own : worked_slots i (with s day m.0) ≤ n = above (with s day m.0) (and_from (nat_lt day i.days) (is_list_of i s m.0) (lt-ltb day i.days h) b.legal) refl in
      under (unsigned_abs (get_or values day (pos 0))) (worked_slots i (with s day m.0)) n is own);
}
  where
    chained : (a b c d : ℕ) → b ≡ a → b ≤ c → c ≤ d → a ≤ d
    chained a b c d e h g = omega arith

    under : (a b c : ℕ) → a ≡ b → b ≤ c → a ≤ c
    under a b c e h = omega arith

-- no duty works in more slots than there are
few_worked : (i : Problem) (d : Duty) → worked_slots i d ≤ slots i
few_worked i d = few (λ t. works i d t) (below (slots i)) (slots i) (length-range_with_len 0 (slots i))
  where
    bit : (b : Bool) → cond b 1 0 ≤ 1
    bit true = omega arith
    bit false = omega arith

    at_most : (p : ℕ → Bool) (xs : List ℕ) → count_by p xs ≤ length xs
    at_most p [] = omega arith
    at_most p (x ∷ xs) =
        let one : count_by p (x ∷ xs) ≡ cond (p x) 1 0 + count_by p xs = sum_by-cons (λ y. cond (p y) 1 0) x xs in
        let rest : count_by p xs ≤ length xs = at_most p xs in
        let small : cond (p x) 1 0 ≤ 1 = bit (p x) in
        omega arith

    few : (p : ℕ → Bool) (xs : List ℕ) (n : ℕ) → length xs ≡ n → count_by p xs ≤ n
    few p xs n e = let h : count_by p xs ≤ length xs = at_most p xs in omega arith

pub few_most : (i : Problem) (most : ℕ) → IsMostWorked i most → most ≤ slots i
few_most i most m = m.least (slots i) (λ d legal. few_worked i d)

-- so the values of a shift are small, and are read as they are
pub small_values : (i : Problem) (s : ℕ) (values : List ℤ) → IsValid i → AreMostByDay i s (ones i) i.days values → (day : ℕ) → day < i.days → unsigned_abs (get_or values day (pos 0)) ≤ 2016
small_values i s values valid by day h =
    let m : IsMostOn i s day (ones i) (get_or values day (pos 0)) = by.each day h in
    few (unsigned_abs (get_or values day (pos 0))) (worked_slots i (with s day m.0)) (slots i) (best_is i s day m.0 (get_or values day (pos 0)) m.1) (few_worked i (with s day m.0)) valid.few_slots
  where
    few : (a b n : ℕ) → a ≡ b → b ≤ n → n ≤ 2016 → a ≤ 2016
    few a b n e h g = omega arith

pub narrow : (z : ℤ) → unsigned_abs z ≤ 2016 → to_z w64 (of_z w64 z) ≡ z
narrow z small = to_z-of_z w64 z (fits_signed_from_abs w64 z (omega arith))

-- the greatest of some numbers, with one more
pub greatest_each : (f : ℕ → ℕ) (k most value next : ℕ) → next ≡ max most value → value ≡ f k → ((n : ℕ) → n < k → f n ≤ most) → (n : ℕ) → n < k + 1 → f n ≤ next
greatest_each f k most value next e is each n h =
    elim (cases_lt n k) [
      | inl old ↦ let z : f n ≤ most = each n old in omega arith
      | inr new ↦ let z : f k ≡ f n = ap f (omega arith) in omega arith
    ]

-- the most slots in which duties of the first shifts work
pub record IsMostBelow (i : Problem) (shifts most : ℕ) : Type 0 where
  pub each : (d : Duty) → is_legal_duty i d ≡ true → d.shift < shifts → worked_slots i d ≤ most
  pub least : (n : ℕ) → ((d : Duty) → is_legal_duty i d ≡ true → d.shift < shifts → worked_slots i d ≤ n) → most ≤ n

pub one_below : (i : Problem) (s most of next : ℕ) → IsMostBelow i s most → IsMostOf i s of → next ≡ max most of → IsMostBelow i (s + 1) next
one_below i s most of next before here e = record {
  each = λ d legal h. elim (cases_lt d.shift s) [
    | inl old ↦ let z : worked_slots i d ≤ most = before.each d legal old in above (worked_slots i d) most of next e (inl z)
    | inr new ↦ let same : d.shift ≡ s = omega arith in let z : worked_slots i d ≤ of = here.each d legal same in above (worked_slots i d) most of next e (inr z)
  ];
  least = λ n all.
      let a : most ≤ n = before.least n (λ d legal h. all d legal (omega arith)) in
      let b : of ≤ n = here.least n (λ d legal same. all d legal (omega arith)) in
      both most of next n e a b;
}
  where
    above : (a b c d : ℕ) → d ≡ max b c → (a ≤ b) ⊎ (a ≤ c) → a ≤ d
    above a b c d e (inl h) = omega arith
    above a b c d e (inr h) = omega arith

    both : (b c d n : ℕ) → d ≡ max b c → b ≤ n → c ≤ n → d ≤ n
    both b c d n e h g = omega arith

pub all_below : (i : Problem) (shifts most : ℕ) → shifts ≡ length (shift_list i) → IsMostBelow i shifts most → IsMostWorked i most
all_below i shifts most e m = record {
  each = λ d legal. m.each d legal (subst (λ (n : ℕ). d.shift < n) (sym e) (legal_duty_parts i d legal).shift);
  least = λ n above. m.least n (λ d legal h. above d legal);
}
