-- Values that stay known while prices fall: those of the days on which no price of a shift's slots fell.
use Rattle.greedy.proofs.Common.{◌≡◌, ◌⊎◌, inl, inr, ℕ, zero, suc, ◌+◌, ◌-◌, ◌*◌, ◌<◌, ◌≤◌, ℤ, pos, neg_ℤ, ◌+ℤ◌, ◌-ℤ◌, ◌≤ℤ◌, Bool, true, false, cond, ◌&&◌, ◌==◌, List, [], ◌++◌, length, length-set, set, get_or, refl, sym, ap, ◌∙◌, subst, arith, Option, Some, None, slice_get, All, IfSome, is_some, replicate, w64, option_map_or, list_any, and_parts, cases_eq, cases_lt, eqb-true, false≢true, ints, get_or-set_same, get_or-set_other, mod_below, Break, Rule, works_at, int_sum_by, any_some, from_below, int_sum_by-le, int_sum_by-same, Duty, Shift, Problem, below, day_slots, shift_list, slot_of, slots, works, IsValid, price_of, int_sum_below_more, sum_at, price_in, AreSmallPrices, AreSums, sums_on, AreSumsByDay, day_value, duty, earned_with, marginal_prices, AreAllKnown, AreKnown, AreNoHigher, IsKnown, KeepsEach, price_total, ArePrices}
use Rattle.std.proofs.Common.{FitsSigned}
use Rattle.std.proofs.lemmas.List.Elements.{All-from_get_or}
use Rattle.std.specs.Int.RustNames.{unsigned_abs}
use Rattle.break_rules.proofs.Sizes.{abs_within}
use Rattle.price_sums.proofs.Stretches.{difference_fits, over_stretch}
use Rattle.greedy.proofs.Lowering.{price_falls, value_no_more}

both_ways : (a b : ℤ) → a ≤ℤ b → b ≤ℤ a → a ≡ b
both_ways a b p q = omega (arith, ints)

same_most : (a b : ℤ) → a ≡ b → a ≤ℤ b
same_most a b e = omega (arith, ints)

-- numbers of which none is greater than another's, and whose sums are the same, are the same
pub level : (f g : ℕ → ℤ) (n : ℕ) → ((o : ℕ) → o < n → f o ≤ℤ g o) → int_sum_by f (below n) ≡ int_sum_by g (below n) → (o : ℕ) → o < n → f o ≡ g o
level f g zero less same o inside = absurd (omega arith)
level f g (suc n) less same o inside =
    let e : suc n ≡ n + 1 = omega arith in
    let sf : int_sum_by f (below (suc n)) ≡ int_sum_by f (below n) +ℤ f n = ap (λ k. int_sum_by f (below k)) e ∙ int_sum_below_more f n in
    let sg : int_sum_by g (below (suc n)) ≡ int_sum_by g (below n) +ℤ g n = ap (λ k. int_sum_by g (below k)) e ∙ int_sum_below_more g n in
    let rest : int_sum_by f (below n) ≤ℤ int_sum_by g (below n) = int_sum_by-le f g (below n) (λ x m. less x (let l : x < n = from_below n x m in omega arith)) in
    let last : f n ≤ℤ g n = less n (omega arith) in
    elim (cases_lt o n) [
      | inl l ↦ level f g n (λ p m. less p (omega arith)) (omega (arith, ints)) o l
      | inr past ↦
          let at : o ≡ n = omega arith in
          let here : f n ≡ g n = omega (arith, ints) in
          subst (λ (k : ℕ). f k ≡ g k) (sym at) here
    ]

module _ (i : Problem) (s day : ℕ) (x : Shift × Rule) (is : slice_get (shift_list i) s ≡ Some x) where
  -- a slot in which a duty works is one of the shift's
  seen : (list : List Break) (t : ℕ) → works i (duty s day list) t ≡ true → (o : ℕ) × (o < x.0.len) × (slot_of i x.0 day o ≡ t)
  seen list t h =
      let test : ℕ → Bool = λ o. works_at x.1 x.0.len list o && (slot_of i x.0 day o == t) in
      let any : list_any test (below x.0.len) ≡ true =
      sym (ap (λ o. option_map_or (λ (x : Shift × Rule). list_any (λ o. works_at x.1 x.0.len list o && (slot_of i x.0 day o == t)) (below x.0.len)) o false) is) ∙ h in
      let found = any_some test (below x.0.len) any in
      (found.0, from_below x.0.len found.0 found.1, eqb-true _ _ (and_parts (works_at x.1 x.0.len list found.0) (slot_of i x.0 day found.0 == t) found.2).1)

  module _ (old new : List ℤ) (same : (o : ℕ) → o < x.0.len → price_of old (slot_of i x.0 day o) ≡ price_of new (slot_of i x.0 day o)) where
    -- so where the prices of these are the same a duty earns the same
    earned_same : (list : List Break) → earned_with i old s day list ≡ earned_with i new s day list
    earned_same list =
        int_sum_by-same (λ t. cond (works i (duty s day list) t) (price_of old t) (pos 0)) (λ t. cond (works i (duty s day list) t) (price_of new t) (pos 0)) (below (slots i)) (λ t m.
        at t (works i (duty s day list) t) (λ w. let o = seen list t w in sym (ap (price_of old) o.2) ∙ same o.0 o.1 ∙ ap (price_of new) o.2))
      where
        at : (t : ℕ) (b : Bool) → (b ≡ true → price_of old t ≡ price_of new t) → cond b (price_of old t) (pos 0) ≡ cond b (price_of new t) (pos 0)
        at t true h = h refl
        at t false h = refl

    -- and the value is the same
    pub value_same : day_value i old s day ≡ day_value i new s day
    value_same =
        both_ways (day_value i old s day) (day_value i new s day)
        (value_no_more i old new s day (λ list. same_most (earned_with i old s day list) (earned_with i new s day list) (earned_same list)))
        (value_no_more i new old s day (λ list. same_most (earned_with i new s day list) (earned_with i old s day list) (sym (earned_same list))))

  -- what is known stays so where no price rose and the sum of the shift's is the same
  pub known_left : (old new : List ℤ) (known : Option ℤ) → IsValid i → AreNoHigher i new old → price_total i x.0 day old ≡ price_total i x.0 day new → IsKnown i old s day known → IsKnown i new s day known
  known_left old new None valid falling same held = tt
  known_left old new (Some v) valid falling same held =
      held ∙ value_same old new (λ o inside.
      sym (level (λ o. price_of new (slot_of i x.0 day o)) (λ o. price_of old (slot_of i x.0 day o)) x.0.len
      (λ p m. falling (slot_of i x.0 day p) (mod_below (day * day_slots i + x.0.start + p) (slots i) valid.some_slots)) (sym same) o inside))

-- the difference of the last and the first sum is that of all prices
pub total_between : (i : Problem) (shift : Shift) (prices : List ℤ) (lanes : List (List ℤ)) (day : ℕ) → AreSumsByDay i shift prices lanes → day < i.days
    → sum_at (sums_on day lanes) shift.len -ℤ sum_at (sums_on day lanes) 0 ≡ price_total i shift day prices
total_between i shift prices lanes day sums less =
    let own = sums_on day lanes in
    let whole : shift.len - 0 ≡ shift.len = omega arith in
    sym (over_stretch own 0 shift.len (omega arith)) ∙ ap (λ n. int_sum_by (price_in own) (below n)) whole
    ∙ int_sum_by-same (price_in own) (λ o. price_of prices (slot_of i shift day o)) (below shift.len) (λ o m. sums.each day less o (from_below shift.len o m))

pub total_fits : (rule : Rule) (len : ℕ) (sums : List ℤ) → AreSums len sums → FitsSigned w64 (sum_at sums len -ℤ sum_at sums 0)
total_fits rule len sums small = difference_fits sums rule len (pos 0) small (omega arith) len 0

-- one place changed
pub place_set : {X : Type 0} (P : ℕ → X → Type 0) (d : X) (xs : List X) (k : ℕ) (x : X) → k < length xs → P k x → (n : ℕ) → ((n ≡ k → ⊥) → P n (get_or xs n d)) → P n (get_or (set xs k x) n d)
place_set P d xs k x inside here n before =
    elim (cases_eq n k) [
      | inl e ↦ subst (λ (j : ℕ). P j (get_or (set xs k x) j d)) (sym e) (subst (P k) (sym (get_or-set_same xs k x d inside)) here)
      | inr ne ↦ subst (P n) (sym (get_or-set_other xs k n x d ne)) (before ne)
    ]

pub up_to : (s k : ℕ) → s < k + 1 → (s < k) ⊎ (s ≡ k)
up_to s k less = grind arith

-- what is known of each shift, with what is known of one of them changed
pub keeps_with : (i : Problem) (prices : List ℤ) (known : List (List (Option ℤ))) (k at : ℕ) (entry : List (Option ℤ)) → k < length (shift_list i) → at ≡ k → AreKnown i prices k entry → KeepsEach i prices known → KeepsEach i prices (set known at entry)
keeps_with i prices known k at entry inside is own held =
    let many : length known ≡ length (shift_list i) = held.places in
    record {
      places = length-set known at entry ∙ many;
      each = λ s less. place_set (AreKnown i prices) [] known at entry (omega arith) (subst (λ (n : ℕ). AreKnown i prices n entry) (sym is) own) s (λ ne. held.each s less);
    }

-- nothing is known of any shift
pub keeps_nothing : (i : Problem) (prices : List ℤ) (known : List (List (Option ℤ))) → length known ≡ length (shift_list i) → All (λ (days : List (Option ℤ)). days ≡ replicate 8 None) known → KeepsEach i prices known
keeps_nothing i prices known many all = record {
  places = many;
  each = λ s less day _. subst (λ (days : List (Option ℤ)). IsKnown i prices s day (get_or days day None)) (sym (all s [] (omega arith))) (nothing 8 day (IsKnown i prices s day) tt);
}
  where
    nothing : (m day : ℕ) (P : Option ℤ → Type 0) → P None → P (get_or (replicate m None) day None)
    nothing zero day P none = none
    nothing (suc m) zero P none = none
    nothing (suc m) (suc day) P none = nothing m day P none

-- a value that is known
pub some_known : (o : Option ℤ) (v : ℤ) → is_some o ≡ true → IfSome o (λ x. x ≡ v) → o ≡ Some v
some_known None v some held = absurd (false≢true some)
some_known (Some x) v some held = ap (λ (y : ℤ). Some y) held

-- a value that is found
module _ (i : Problem) (prices : List ℤ) (s day : ℕ) (known : List (Option ℤ)) (inside : day < length known) where
  pub known_with : AreKnown i prices s known → AreKnown i prices s (set known day (Some (day_value i prices s day)))
  known_with held k less = place_set (IsKnown i prices s) None known day (Some (day_value i prices s day)) inside refl k (λ ne. held k less)

-- with more duties no marginal price is higher
pub falling_after : (i : Problem) (rota more next : List Duty) (prices new : List ℤ) → next ≡ rota ++ more → prices ≡ marginal_prices i rota → new ≡ marginal_prices i next → AreNoHigher i new prices
falling_after i rota more next prices new grown was is t inside =
    let now : price_of new t ≡ price_of (marginal_prices i (rota ++ more)) t = ap (λ (ps : List ℤ). price_of ps t) (is ∙ ap (marginal_prices i) grown) in
    let before : price_of prices t ≡ price_of (marginal_prices i rota) t = ap (λ (ps : List ℤ). price_of ps t) was in
    let fall : price_of (marginal_prices i (rota ++ more)) t ≤ℤ price_of (marginal_prices i rota) t = price_falls i rota more t inside in
    omega (arith, ints)

-- marginal prices are small
pub small_prices : (i : Problem) (prices : List ℤ) → ArePrices i prices → AreSmallPrices prices
small_prices i prices h =
    All-from_get_or (λ (z : ℤ). unsigned_abs z ≤ 10000000000) prices (pos 0) (λ t inside.
    let low : neg_ℤ (pos 1000000) ≤ℤ price_of prices t = (h.small t).above in
    let high : price_of prices t ≤ℤ pos 1000000 = (h.small t).below in
    abs_within (price_of prices t) 10000000000 (omega (arith, ints)) (omega (arith, ints)))
