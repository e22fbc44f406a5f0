-- The values of duties at prices that are the same wherever the duties may work.
use Rattle.bound_sums.proofs.Common.{◌≡◌, ℕ, zero, suc, ◌+◌, ◌-◌, ◌<◌, ℤ, pos, ◌-ℤ◌, ◌+ℤ◌, ◌≤ℤ◌, Bool, true, false, cond, not, ◌&&◌, ◌==◌, List, [], ◌∷◌, map, refl, sym, ap, ◌∙◌, subst, arith, Some, slice_get, list_any, zip, false≢true, and_parts, or_parts, eqb-true, ints, Rule, works_at, begins_with, int_sum_by, greatest, int_sum_by-same, int_sum_by-cons, Shift, Problem, slots, shift_list, slot_of, below, lists_of, works, price_of, earned, sum_at, price_in, Cut, Prices, is_nil, signed_price, bonus, reduced, has_prefix_cut, of_slots, AreValues}
use Rattle.std.specs.Option.{option_map_or}
use Rattle.break_rules.specs.declared.Break.{Break}
use Rattle.break_rules.proofs.Lists.{any_some, from_below}
use Rattle.shift_instance.specs.declared.Duty.{Duty}

-- sums of numbers that aren't negative never fall
climb : (sums : List ℤ) (a n : ℕ) → ((o : ℕ) → o < a + n → pos 0 ≤ℤ price_in sums o) → sum_at sums a ≤ℤ sum_at sums (a + n)
climb sums a zero rising = let e : a + zero ≡ a = omega arith in rw e (omega (arith, ints))
climb sums a (suc n) rising =
    let before : sum_at sums a ≤ℤ sum_at sums (a + n) = climb sums a n (λ o l. rising o (omega arith)) in
    let here : pos 0 ≤ℤ (sum_at sums (a + n + 1) -ℤ sum_at sums (a + n)) = rising (a + n) (omega arith) in
    let e : a + suc n ≡ a + n + 1 = omega arith in
    rw e (omega (arith, ints))

-- so each of them is 0 where the last sum is the first one
pub level : (sums : List ℤ) (len : ℕ) → ((o : ℕ) → o < len → pos 0 ≤ℤ price_in sums o) → sum_at sums 0 ≡ sum_at sums len → (o : ℕ) → o < len → price_in sums o ≡ pos 0
level sums len rising same o inside =
    let n : ℕ = len - (o + 1) in
    let end : o + 1 + n ≡ len = omega arith in
    let zeroth : 0 + o ≡ o = omega arith in
    let first : sum_at sums 0 ≤ℤ sum_at sums (0 + o) = climb sums 0 o (λ p l. rising p (omega arith)) in
    let last : sum_at sums (o + 1) ≤ℤ sum_at sums (o + 1 + n) = climb sums (o + 1) n (λ p l. rising p (omega arith)) in
    let up : pos 0 ≤ℤ (sum_at sums (o + 1) -ℤ sum_at sums o) = rising o inside in
    let first' : sum_at sums 0 ≤ℤ sum_at sums o = subst (λ (k : ℕ). sum_at sums 0 ≤ℤ sum_at sums k) zeroth first in
    let last' : sum_at sums (o + 1) ≤ℤ sum_at sums len = subst (λ (k : ℕ). sum_at sums (o + 1) ≤ℤ sum_at sums k) end last in
    omega (arith, ints)

-- the prices of slots in which some duty of a shift on a day may work are the same
abbrev pub AreSameSeen : Problem → ℕ → ℕ → List ℤ → List ℤ → Type 0
AreSameSeen i s day old new =
    (x : Shift × Rule) → slice_get (shift_list i) s ≡ Some x → (offset : ℕ) → offset < x.0.len → price_of old (slot_of i x.0 day offset) ≡ price_of new (slot_of i x.0 day offset)

module _ (i : Problem) (s day : ℕ) (x : Shift × Rule) (is : slice_get (shift_list i) s ≡ Some x) where
  -- a slot in which a duty works is one of the shift's
  seen : (list : List Break) (t : ℕ) → works i (record { shift = s; day = day; breaks = list }) t ≡ true → (o : ℕ) × (o < x.0.len) × (slot_of i x.0 day o ≡ t)
  seen list t h =
      let test : ℕ → Bool = λ o. works_at x.1 x.0.len list o && (slot_of i x.0 day o == t) in
      let any : list_any test (below x.0.len) ≡ true =
      sym (ap (λ o. option_map_or (λ (x : Shift × Rule). list_any (λ o. works_at x.1 x.0.len list o && (slot_of i x.0 day o == t)) (below x.0.len)) o false) is) ∙ h in
      let found = any_some test (below x.0.len) any in
      (found.0, from_below x.0.len found.0 found.1, eqb-true _ _ (and_parts (works_at x.1 x.0.len list found.0) (slot_of i x.0 day found.0 == t) found.2).1)

  -- so what a duty earns is the same
  earned_same : (old new : List ℤ) (list : List Break) → AreSameSeen i s day old new → earned i old (record { shift = s; day = day; breaks = list }) ≡ earned i new (record { shift = s; day = day; breaks = list })
  earned_same old new list same =
      let d : Duty = record { shift = s; day = day; breaks = list } in
      int_sum_by-same (λ t. cond (works i d t) (price_of old t) (pos 0)) (λ t. cond (works i d t) (price_of new t) (pos 0)) (below (slots i)) (λ t m.
      at t (works i d t) (λ w. let o = seen list t w in sym (ap (price_of old) o.2) ∙ same x is o.0 o.1 ∙ ap (price_of new) o.2))
    where
      at : (t : ℕ) (b : Bool) → (b ≡ true → price_of old t ≡ price_of new t) → cond b (price_of old t) (pos 0) ≡ cond b (price_of new t) (pos 0)
      at t true h = h refl
      at t false h = refl

-- where no cut bounds duties of a shift that begin with some break, cuts add nothing to a duty of it
module _ (s day : ℕ) (list : List Break) where
  abbrev duty : Duty
  duty = record { shift = s; day = day; breaks = list }

  nothing : (some own on begins : Bool) (z : ℤ) → (some && own) ≡ false → cond (some && ((own && on) && begins)) z (pos 0) ≡ pos 0
  nothing false own on begins z h = refl
  nothing true false on begins z h = refl
  nothing true true on begins z h = absurd (false≢true (sym h))

  pub bonus_none : (cuts : List Cut) (prices : List ℕ) → has_prefix_cut cuts s ≡ false → int_sum_by (bonus duty) (zip cuts prices) ≡ pos 0
  bonus_none [] prices none = refl
  bonus_none (c ∷ cs) [] none = refl
  bonus_none (c ∷ cs) (p ∷ ps) none =
      let parts = or_parts (not (is_nil c.class.prefix) && (s == c.class.shift)) (has_prefix_cut cs s) none in
      let here : bonus duty (c, p) ≡ pos 0 = nothing (not (is_nil c.class.prefix)) (s == c.class.shift) (day == c.class.day) (begins_with list c.class.prefix) (signed_price c.side p) parts.0 in
      let rest : int_sum_by (bonus duty) (zip cs ps) ≡ pos 0 = bonus_none cs ps parts.1 in
      let one : int_sum_by (bonus duty) ((c, p) ∷ zip cs ps) ≡ bonus duty (c, p) +ℤ int_sum_by (bonus duty) (zip cs ps) = int_sum_by-cons (bonus duty) (c, p) (zip cs ps) in
      omega (arith, ints)

map_same : {X Y : Type 0} (f g : X → Y) (xs : List X) → ((x : X) → f x ≡ g x) → map f xs ≡ map g xs
map_same f g [] h = refl
map_same f g (x ∷ xs) h = ap (λ y. y ∷ map f xs) (h x) ∙ ap (λ ys. g x ∷ ys) (map_same f g xs h)

module _ (i : Problem) (s : ℕ) where
  -- values of a shift at some prices are those at others, where each duty is worth the same at both
  values_same : (cuts cuts' : List Cut) (prices prices' : Prices) (values : List ℤ)
      → ((day : ℕ) → day < i.days → (list : List Break) → reduced i cuts prices (record { shift = s; day = day; breaks = list }) ≡ reduced i cuts' prices' (record { shift = s; day = day; breaks = list }))
      → AreValues i cuts prices s i.days values → AreValues i cuts' prices' s i.days values
  values_same cuts cuts' prices prices' values same held = record {
    each = λ day less.
        let v = held.each day less in
        record {
          some = v.some;
          is = v.is ∙ ap greatest (map_same (λ list. reduced i cuts prices (record { shift = s; day = day; breaks = list })) (λ list. reduced i cuts' prices' (record { shift = s; day = day; breaks = list })) (lists_of i s) (same day less));
          small = v.small;
        };
  }

  -- without cuts on beginnings the values are those at the prices of slots alone
  module _ (cuts : List Cut) (prices : Prices) (none : has_prefix_cut cuts s ≡ false) where
    alone : (day : ℕ) (list : List Break) → reduced i cuts prices (record { shift = s; day = day; breaks = list }) ≡ reduced i [] (of_slots prices.slots) (record { shift = s; day = day; breaks = list })
    alone day list = ap (λ (z : ℤ). earned i prices.slots (record { shift = s; day = day; breaks = list }) +ℤ z) (bonus_none s day list cuts prices.cuts none)

    pub values_alone : (values : List ℤ) → AreValues i cuts prices s i.days values → AreValues i [] (of_slots prices.slots) s i.days values
    values_alone values held = values_same cuts [] prices (of_slots prices.slots) values (λ day less list. alone day list) held

    pub values_with : (values : List ℤ) → AreValues i [] (of_slots prices.slots) s i.days values → AreValues i cuts prices s i.days values
    values_with values held = values_same [] cuts (of_slots prices.slots) prices values (λ day less list. sym (alone day list)) held

  -- and they are the same at other prices of slots that a shift doesn't see
  pub values_unseen : (x : Shift × Rule) (old new values : List ℤ) → slice_get (shift_list i) s ≡ Some x → ((day : ℕ) → day < i.days → AreSameSeen i s day old new)
      → AreValues i [] (of_slots old) s i.days values → AreValues i [] (of_slots new) s i.days values
  values_unseen x old new values is same held =
      values_same [] [] (of_slots old) (of_slots new) values (λ day less list. ap (λ (z : ℤ). z +ℤ pos 0) (earned_same i s day x is old new list (same day less))) held
