-- What one duty more costs.
use Rattle.descents.proofs.Common.{◌≡◌, ◌⊎◌, inl, inr, ℕ, zero, suc, ◌+◌, ◌*◌, ◌<◌, ◌≤◌, ℤ, pos, ◌+ℤ◌, ◌*ℤ◌, ◌≤ℤ◌, true, cond, List, [], ◌∷◌, ◌++◌, length, Some, refl, sym, ap, ◌∙◌, subst, arith, sum_by, ints, cases_Bool, Break, Duty, Problem, slots, shift_list, below, works, cover, slot_cost, is_used, shifts_used, cost, is_list_of, duties_of, with_pushed, used_same, used_more, best_list, duty, earned_with, marginal_price, marginal_prices, IsWithin, worth_none, best_found, earned_small, prices_small, fee, used_by_count, unused_by_count}
use Rattle.break_rules.specs.Sums.{int_sum_by}
use Rattle.break_rules.proofs.Lists.{from_below}
use Rattle.break_rules.proofs.Sums.{int_sum_by-same, int_sum_by-add, mul-zero}
use Rattle.shift_instance.specs.Valid.{IsValid}
use Rattle.shift_instance.specs.Worth.{price_of, earned, worth, IsBest}
use Rattle.greedy.proofs.Falls.{times_one, slot_falls, price_at, pos_sum}

-- a slot in a plan with one duty more
slot_with : (i : Problem) (rota : List Duty) (d : Duty) (t : ℕ) → IsValid i → t < slots i
    → pos (slot_cost i t (cover i (rota ++ d ∷ []) t)) +ℤ cond (works i d t) (price_of (marginal_prices i rota) t) (pos 0) ≡ pos (slot_cost i t (cover i rota t))
slot_with i rota d t valid h =
    let c = cover i rota t in
    let more : cover i (rota ++ d ∷ []) t ≡ c + cond (works i d t) 1 0 = (with_pushed rota d).each (λ x. works i x t) in
    let price : price_of (marginal_prices i rota) t ≡ marginal_price i t c = price_at i rota t h in
    elim (cases_Bool (works i d t)) [
      | inl y ↦
          ap (λ z. pos (slot_cost i t (cover i (rota ++ d ∷ []) t)) +ℤ z) (ap (λ b. cond b (price_of (marginal_prices i rota) t) (pos 0)) y ∙ price ∙ sym (times_one (marginal_price i t c)))
          ∙ ap (λ n. pos (slot_cost i t n) +ℤ marginal_price i t c *ℤ pos 1) (more ∙ ap (λ b. c + cond b 1 0) y)
          ∙ slot_falls i t c 1 (valid.bands t h) (omega arith)
      | inr n ↦
          ap (λ z. pos (slot_cost i t (cover i (rota ++ d ∷ []) t)) +ℤ z) (ap (λ b. cond b (price_of (marginal_prices i rota) t) (pos 0)) n ∙ sym (mul-zero (marginal_price i t c)))
          ∙ ap (λ n. pos (slot_cost i t n) +ℤ marginal_price i t c *ℤ pos 0) (more ∙ ap (λ b. c + cond b 1 0) n)
          ∙ slot_falls i t c 0 (valid.bands t h) (omega arith)
    ]

slots_with : (i : Problem) (rota : List Duty) (d : Duty) → IsValid i
    → pos (sum_by (λ t. slot_cost i t (cover i (rota ++ d ∷ []) t)) (below (slots i))) +ℤ earned i (marginal_prices i rota) d ≡ pos (sum_by (λ t. slot_cost i t (cover i rota t)) (below (slots i)))
slots_with i rota d valid =
    let after : ℕ → ℕ = λ t. slot_cost i t (cover i (rota ++ d ∷ []) t) in
    let worth : ℕ → ℤ = λ t. cond (works i d t) (price_of (marginal_prices i rota) t) (pos 0) in
    let xs = below (slots i) in
    ap (λ z. z +ℤ int_sum_by worth xs) (sym (pos_sum after xs))
    ∙ sym (int_sum_by-add (λ t. pos (after t)) worth xs)
    ∙ int_sum_by-same (λ t. pos (after t) +ℤ worth t) (λ t. pos (slot_cost i t (cover i rota t))) xs (λ t m. slot_with i rota d t valid (from_below (slots i) t m))
    ∙ pos_sum (λ t. slot_cost i t (cover i rota t)) xs

weighed : (a b g u v : ℕ) (z : ℤ) (f : ℕ) → pos a +ℤ z ≡ pos b → g * v ≡ g * u + f → pos (a + g * v) +ℤ z ≡ pos (b + g * u + f)
weighed a b g u v z f e h = omega (arith, ints)

-- a plan with one duty more costs its fee more and its marginal prices less
pub cost_with : (i : Problem) (rota : List Duty) (d : Duty) → IsValid i → d.shift < length (shift_list i) → pos (cost i (rota ++ d ∷ [])) +ℤ earned i (marginal_prices i rota) d ≡ pos (cost i rota + fee i rota d.shift)
cost_with i rota d valid hs =
    let next = rota ++ d ∷ [] in
    let used = is_used rota d.shift in
    weighed (sum_by (λ t. slot_cost i t (cover i next t)) (below (slots i))) (sum_by (λ t. slot_cost i t (cover i rota t)) (below (slots i)))
    i.shift (shifts_used i rota) (shifts_used i next) (earned i (marginal_prices i rota) d) (fee i rota d.shift) (slots_with i rota d valid)
    (elim (cases_zero (duties_of rota d.shift)) [
      | inl none ↦
          let more : shifts_used i next ≡ shifts_used i rota + 1 = used_more i rota d next (with_pushed rota d) hs none in
          let f : fee i rota d.shift ≡ i.shift = ap (λ b. cond b 0 i.shift) (unused_by_count rota d.shift none) in
          let m : i.shift * shifts_used i next ≡ i.shift * shifts_used i rota + i.shift = ap (λ n. i.shift * n) more ∙ omega arith in
          omega (arith, f, m)
      | inr some ↦
          let same : shifts_used i next ≡ shifts_used i rota = used_same i rota d next (with_pushed rota d) (above (duties_of rota d.shift) some) in
          let f : fee i rota d.shift ≡ 0 = ap (λ b. cond b 0 i.shift) (used_by_count rota d.shift some) in
          let m : i.shift * shifts_used i next ≡ i.shift * shifts_used i rota = ap (λ n. i.shift * n) same in
          omega (arith, f, m)
    ])
  where
    cases_zero : (n : ℕ) → (n ≡ 0) ⊎ (n ≡ 0 → ⊥)
    cases_zero zero = inl refl
    cases_zero (suc n) = inr (λ e. absurd (omega (arith, e)))

    above : (n : ℕ) → (n ≡ 0 → ⊥) → 0 < n
    above zero h = absurd (h refl)
    above (suc n) h = omega arith

-- the cost with a list that earns most is the least
pub least_with : (i : Problem) (rota : List Duty) (s day : ℕ) (list other : List Break) (value : ℤ) → IsValid i → s < length (shift_list i) → IsBest i s day (marginal_prices i rota) [] list value → is_list_of i s other ≡ true
    → cost i (rota ++ duty s day list ∷ []) ≤ cost i (rota ++ duty s day other ∷ [])
least_with i rota s day list other value valid hs b legal =
    let own : value ≡ earned_with i (marginal_prices i rota) s day list = b.is_worth ∙ worth_none i (marginal_prices i rota) (duty s day list) in
    let most : worth i (marginal_prices i rota) [] (duty s day other) ≤ℤ value = b.greatest other legal in
    let e : worth i (marginal_prices i rota) [] (duty s day other) ≡ earned_with i (marginal_prices i rota) s day other = worth_none i (marginal_prices i rota) (duty s day other) in
    less (cost i (rota ++ duty s day list ∷ [])) (cost i (rota ++ duty s day other ∷ [])) (cost i rota + fee i rota s) (earned_with i (marginal_prices i rota) s day list) (earned_with i (marginal_prices i rota) s day other) (worth i (marginal_prices i rota) [] (duty s day other)) value
    (cost_with i rota (duty s day list) valid hs) (cost_with i rota (duty s day other) valid hs) own most e
  where
    less : (a b c : ℕ) (v w x y : ℤ) → pos a +ℤ v ≡ pos c → pos b +ℤ w ≡ pos c → y ≡ v → x ≤ℤ y → x ≡ w → a ≤ b
    less a b c v w x y p q e h f = omega (arith, ints)

-- the cost by the value of its list
pub cost_of_value : (i : Problem) (rota : List Duty) (s day : ℕ) (list : List Break) (value : ℤ) → IsValid i → s < length (shift_list i) → IsBest i s day (marginal_prices i rota) [] list value
    → pos (cost i (rota ++ duty s day list ∷ [])) +ℤ value ≡ pos (cost i rota + fee i rota s)
cost_of_value i rota s day list value valid hs b =
    ap (λ z. pos (cost i (rota ++ duty s day list ∷ [])) +ℤ z) (b.is_worth ∙ worth_none i (marginal_prices i rota) (duty s day list))
    ∙ cost_with i rota (duty s day list) valid hs

-- all that is known of a best list at marginal prices
pub record IsBestDuty (i : Problem) (rota : List Duty) (s day : ℕ) (list : List Break) (value : ℤ) : Type 0 where
  pub first : best_list i (marginal_prices i rota) s day ≡ Some list
  pub legal : is_list_of i s list ≡ true
  pub small : IsWithin (2016 * 1000000) value
  pub most : value ≤ℤ pos (cost i rota + fee i rota s)
  pub exact : pos (cost i (rota ++ duty s day list ∷ [])) +ℤ value ≡ pos (cost i rota + fee i rota s)
  pub least : (other : List Break) → is_list_of i s other ≡ true → cost i (rota ++ duty s day list ∷ []) ≤ cost i (rota ++ duty s day other ∷ [])

pub best_duty_is : (i : Problem) (rota : List Duty) (s day : ℕ) (prices : List ℤ) (list : List Break) (value : ℤ) → IsValid i → s < length (shift_list i) → prices ≡ marginal_prices i rota → IsBest i s day prices [] list value → IsBestDuty i rota s day list value
best_duty_is i rota s day prices list value valid hs e h =
    let b : IsBest i s day (marginal_prices i rota) [] list value = subst (λ (ps : List ℤ). IsBest i s day ps [] list value) e h in
    let exact : pos (cost i (rota ++ duty s day list ∷ [])) +ℤ value ≡ pos (cost i rota + fee i rota s) = cost_of_value i rota s day list value valid hs b in
    record {
      first = (best_found i (marginal_prices i rota) s day list value b).0;
      legal = b.legal;
      small = subst (IsWithin (2016 * 1000000)) (sym (best_found i (marginal_prices i rota) s day list value b).1) (earned_small i (marginal_prices i rota) (duty s day list) (prices_small i rota (marginal_prices i rota) valid refl));
      most = at_most (cost i (rota ++ duty s day list ∷ [])) (cost i rota + fee i rota s) value exact;
      exact = exact;
      least = λ other legal. least_with i rota s day list other value valid hs b legal;
    }
  where
    at_most : (a c : ℕ) (v : ℤ) → pos a +ℤ v ≡ pos c → v ≤ℤ pos c
    at_most a c v h = omega (arith, ints)

-- the cost that comes of a value
pub same_cost_with : (a b c : ℕ) (v w : ℤ) → pos a +ℤ v ≡ pos c → pos b +ℤ w ≡ pos c → w ≡ v → b ≡ a
same_cost_with a b c v w h g e = omega (arith, ints)
