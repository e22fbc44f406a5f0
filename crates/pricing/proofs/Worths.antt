-- The best list of a shift's rule and length is the best one of the shift.
use Rattle.pricing.proofs.Common.{◌≡◌, ℕ, ◌-◌, ◌*◌, ◌≤◌, ℤ, pos, ◌+ℤ◌, ◌≤ℤ◌, false, cond, List, refl, sym, ap, ◌∙◌, subst, arith, Option, Some, None, slice_get, IsSomeAnd, option_map_or, range_with_len, Break, Rule, is_legal, works_at, from_below, int_sum_by-same, Shift, Duty, Problem, shift_list, slots, day_slots, below, is_list_of, IsValid, IsShift, earned, worth, IsBest, bonus_of, Found, price_in, earned_from, ArePricesOf, IsBestRest, Priced, IsLegal, worth_of, IsBestFound}
use Rattle.std.proofs.Math.Nat.{mul-le-mul_right}
use Rattle.break_rules.specs.Sums.{int_sum_by}
use Rattle.shift_instance.proofs.Offsets.{earned_by_offsets}

pub some_of : (o : Option (Shift × Rule)) (P : Shift × Rule → Type 0) → IsSomeAnd o P → (x : Shift × Rule) × (o ≡ Some x)
some_of None P h = absurd h
some_of (Some x) P h = (x, refl)

pub short_shift : (i : Problem) (s : Shift) → IsValid i → IsShift i s → s.len ≤ slots i
short_shift i s v h =
    let day : s.len ≤ day_slots i = h.short in
    let some : 1 ≤ i.days = v.some_days in
    let whole : 1 * day_slots i ≤ i.days * day_slots i = mul-le-mul_right (day_slots i) some in
    omega arith

module _ (i : Problem) (s day : ℕ) (prices sums : List ℤ) (x : Shift × Rule) (e : slice_get (shift_list i) s ≡ Some x) (short : x.0.len ≤ slots i) (of : ArePricesOf i x.0 day prices sums) where
  -- what a duty earns, by the sums
  earned_is : (list : List Break) → earned i prices (record { shift = s; day = day; breaks = list }) ≡ earned_from (price_in sums) x.1 x.0.len 0 list
  earned_is list =
      let d : Duty = record { shift = s; day = day; breaks = list } in
      let whole : x.0.len ≡ x.0.len - 0 = omega arith in
      let f : ℕ → ℤ = λ o. cond (works_at x.1 x.0.len list o) (price_in sums o) (pos 0) in
      earned_by_offsets i prices d x e short
      ∙ int_sum_by-same _ f (below x.0.len) (λ o m. ap (λ (z : ℤ). cond (works_at x.1 x.0.len list o) z (pos 0)) (sym (of o (from_below x.0.len o m))))
      ∙ ap (λ n. int_sum_by f (range_with_len 0 n)) whole

  pub list_is : (list : List Break) → is_list_of i s list ≡ is_legal x.1 x.0.len list
  list_is list = ap (λ o. option_map_or (λ (x : Shift × Rule). is_legal x.1 x.0.len list) o false) e

  -- the best list for the rule, the length and the sums is the best one
  pub best_is : (bonus : List (List Break × ℤ)) (list : List Break) (value : ℤ) → IsBestRest (IsLegal (record { rule = x.1; len = x.0.len; sums = sums })) (worth_of (record { rule = x.1; len = x.0.len; sums = sums }) bonus) value list
      → IsBest i s day prices bonus list value
  best_is bonus list value b =
      let same : (l : List Break) → worth i prices bonus (record { shift = s; day = day; breaks = l }) ≡ worth_of (record { rule = x.1; len = x.0.len; sums = sums }) bonus l =
      λ l. ap (λ (z : ℤ). z +ℤ bonus_of bonus l) (earned_is l) in
      record {
        legal = list_is list ∙ b.allowed;
        is_worth = sym (same list ∙ b.is_worth);
        greatest = λ other h. subst (λ (z : ℤ). z ≤ℤ value) (sym (same other)) (b.greatest other (sym (list_is other) ∙ h));
        least = λ other h g. b.least other (sym (list_is other) ∙ h) (sym (same other) ∙ g);
      }

-- what was found, where something was
pub found_some : (p : Priced) (bonus : List (List Break × ℤ)) (best : Option Found) (f : Found) → best ≡ Some f → IsBestFound p bonus best → IsBestRest (IsLegal p) (worth_of p bonus) f.value f.list
found_some p bonus best f e h = subst (IsBestFound p bonus) e h
