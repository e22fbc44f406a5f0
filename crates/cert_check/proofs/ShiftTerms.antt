-- The value of a duty.
use Rattle.cert_check.proofs.Common.{◌≡◌, inl, inr, ℕ, ◌+◌, ◌-◌, ◌^◌, ◌≤◌, ℤ, pos, ◌+ℤ◌, ◌≤ℤ◌, true, false, cond, List, [], ◌∷◌, length, map, set, refl, sym, ap, ◌∙◌, subst, arith, Option, Some, None, get_or-set_same, get_or-set_other, slice_get, IsSomeAnd, unsigned_abs, range_with_len, option_map_or, ints, false≢true, false_from_ne_true, cases_lt, Break, Rule, is_legal, is_live, legal_lists, works_at, int_sum_by, greatest, Has, Has-map, from_map, from_below, int_sum_by-same, greatest_bounds, greatest_reached, from_legal_lists, live_from, live_rest, Shift, Problem, slots, shift_list, below, lists_of, is_list_of, Has_at, shift_short, IsGraph, Cut, Prices, is_nil, reduced, sum_at, price_in, earned_from, AreSums, ArePricesOf, Completes, sums_on, AreSumsByDay, IsGreatest, duty_with, bonuses, whole_worth, IsValue}
use Rattle.std.specs.Prelude.{◌<◌}
use Rattle.shift_instance.specs.Worth.{earned}
use Rattle.shift_instance.proofs.Offsets.{earned_by_offsets}
use Rattle.shift_instance.proofs.Rotas.{Has-lists_of, from_lists_of}
use Rattle.shift_instance.specs.Valid.{IsValid}
use Rattle.break_graph.specs.declared.Node.{Node}
use Rattle.bound_sums.specs.Values.{AreValues}

not_nil : {X : Type 0} (xs : List X) (x : X) → Has xs x → is_nil xs ≡ false
not_nil [] x h = absurd h
not_nil (y ∷ ys) x h = refl

-- a shift with which no list is live has no legal list
pub nil_without : (i : Problem) (s : ℕ) (x : Shift × Rule) → slice_get (shift_list i) s ≡ Some x → is_live x.1 x.0.len [] ≡ false → is_nil (lists_of i s) ≡ true
nil_without i s x e dead = ap (λ (o : Option (Shift × Rule)). is_nil (option_map_or (λ (x : Shift × Rule). legal_lists x.1 x.0.len) o [])) e ∙ go (legal_lists x.1 x.0.len) (λ list h. false≢true (sym dead ∙ live_from x.1 x.0.len [] list (from_legal_lists x.1 x.0.len list h)))
  where
    go : (xs : List (List Break)) → ((x : List Break) → Has xs x → ⊥) → is_nil xs ≡ true
    go [] h = refl
    go (x ∷ xs) h = absurd (h x (inl refl))

reached : (xs : List ℤ) (x : ℤ) → Has xs x → Has xs (greatest xs)
reached [] x h = absurd h
reached (y ∷ xs) x h = greatest_reached y xs

module _ (i : Problem) (cuts : List Cut) (prices : Prices) (s day : ℕ) (sums : List ℤ) (x : Shift × Rule) (e : slice_get (shift_list i) s ≡ Some x) (short : x.0.len ≤ slots i) (of : ArePricesOf i x.0 day prices.slots sums) where
  -- what a duty earns, by the sums
  earned_is : (list : List Break) → earned i prices.slots (duty_with s day list) ≡ earned_from (price_in sums) x.1 x.0.len 0 list
  earned_is list =
      let whole : x.0.len ≡ x.0.len - 0 = omega arith in
      let f : ℕ → ℤ = λ o. cond (works_at x.1 x.0.len list o) (price_in sums o) (pos 0) in
      earned_by_offsets i prices.slots (duty_with s day list) x e short
      ∙ int_sum_by-same _ f (below x.0.len) (λ o m. ap (λ (z : ℤ). cond (works_at x.1 x.0.len list o) z (pos 0)) (sym (of o (from_below x.0.len o m))))
      ∙ ap (λ n. int_sum_by f (range_with_len 0 n)) whole

  reduced_is : (list : List Break) → reduced i cuts prices (duty_with s day list) ≡ whole_worth cuts prices.cuts s day sums x.1 x.0.len [] list
  reduced_is list = ap (λ (z : ℤ). z +ℤ bonuses cuts prices.cuts (duty_with s day list)) (earned_is list)

  list_is : (list : List Break) → is_list_of i s list ≡ is_legal x.1 x.0.len list
  list_is list = ap (λ (o : Option (Shift × Rule)). option_map_or (λ (x : Shift × Rule). is_legal x.1 x.0.len list) o false) e

  -- the greatest worth of a whole list is the value that the bound takes
  pub value_is : (v : ℤ) → IsGreatest (Completes x.1 x.0.len []) (whole_worth cuts prices.cuts s day sums x.1 x.0.len []) v → unsigned_abs v ≤ 2 ^ 74 → IsValue i cuts prices s day v
  value_is v g size =
      let f : List Break → ℤ = λ list. reduced i cuts prices (duty_with s day list) in
      let list = g.reached.0 in
      let has : Has (lists_of i s) list = Has-lists_of i s list (list_is list ∙ g.reached.1) in
      let m : Has (map f (lists_of i s)) (f list) = Has-map f (lists_of i s) list has in
      let up : f list ≤ℤ greatest (map f (lists_of i s)) = greatest_bounds (map f (lists_of i s)) (f list) m in
      let l = from_map f (lists_of i s) (greatest (map f (lists_of i s))) (reached (map f (lists_of i s)) (f list) m) in
      let down : f l.0 ≤ℤ v = subst (λ (z : ℤ). z ≤ℤ v) (sym (reduced_is l.0)) (g.greatest l.0 (sym (list_is l.0) ∙ from_lists_of i s l.0 l.1)) in
      let top : f l.0 ≡ greatest (map f (lists_of i s)) = l.2 in
      let is : f list ≡ v = reduced_is list ∙ g.reached.2 in
      record { some = not_nil (lists_of i s) list has; is = omega (arith, ints); small = size }

-- the shift of a number, and what holds of it
pub shift_some : (o : Option (Shift × Rule)) (P : Shift × Rule → Type 0) → IsSomeAnd o P → (x : Shift × Rule) × (o ≡ Some x) × P x
shift_some None P h = absurd h
shift_some (Some x) P h = (x, refl, h)

pub shift_at : (o : Option (Shift × Rule)) (x : Shift × Rule) (P : Shift × Rule → Type 0) → o ≡ Some x → IsSomeAnd o P → P x
shift_at o x P e h = subst (λ (q : Option (Shift × Rule)). IsSomeAnd q P) e h

-- a shift and its rule, as they are read
module _ (i : Problem) (s : ℕ) (shift : Shift) (rule : Rule) (own_shift : IsSomeAnd (slice_get (shift_list i) s) (λ y. shift ≡ y.0)) (own_rule : IsSomeAnd (slice_get (shift_list i) s) (λ y. rule ≡ y.1)) where
  pub own_graph : (nodes : List Node) → IsSomeAnd (slice_get (shift_list i) s) (λ x. IsGraph x.1 x.0.len nodes) → IsGraph rule shift.len nodes
  own_graph nodes h =
      let o = slice_get (shift_list i) s in
      let x = shift_some o (λ x. IsGraph x.1 x.0.len nodes) h in
      subst (λ (r : Rule). IsGraph r shift.len nodes) (sym (shift_at o x.0 (λ y. rule ≡ y.1) x.1 own_rule))
      (subst (λ (z : Shift). IsGraph x.0.1 z.len nodes) (sym (shift_at o x.0 (λ y. shift ≡ y.0) x.1 own_shift)) x.2)

  -- a shift without legal lists has none in the list of all
  pub own_nil : ((list : List Break) → is_legal rule shift.len list ≡ false) → is_nil (lists_of i s) ≡ true
  own_nil illegal =
      let x = shift_some (slice_get (shift_list i) s) (λ y. shift ≡ y.0) own_shift in
      let same_rule : rule ≡ x.0.1 = shift_at (slice_get (shift_list i) s) x.0 (λ y. rule ≡ y.1) x.1 own_rule in
      nil_without i s x.0 x.1 (dead x.0.1 x.0.0.len (λ list. subst (λ (r : Rule). is_legal r x.0.0.len list ≡ false) same_rule (subst (λ (z : Shift). is_legal rule z.len list ≡ false) x.2 (illegal list))))
    where
      dead : (r : Rule) (len : ℕ) → ((list : List Break) → is_legal r len list ≡ false) → is_live r len [] ≡ false
      dead r len none = false_from_ne_true (is_live r len []) (λ live. let rest = live_rest r len [] live in false≢true (sym (none rest.0) ∙ rest.1))

  -- the sums along the shift on a day
  pub own_sums : (prices : List ℤ) (lanes : List (List ℤ)) (day : ℕ) → ((x : Shift × Rule) → slice_get (shift_list i) s ≡ Some x → AreSumsByDay i x.0 prices lanes) → day < i.days → AreSums shift.len (sums_on day lanes)
  own_sums prices lanes day of less =
      let x = shift_some (slice_get (shift_list i) s) (λ y. shift ≡ y.0) own_shift in
      subst (λ (z : Shift). AreSums z.len (sums_on day lanes)) (sym x.2) ((of x.0 x.1).small day less)

  -- the value of the shift's duties on a day
  pub own_value : (cuts cs : List Cut) (prices : Prices) (ps : List ℕ) (lanes : List (List ℤ)) (day : ℕ) (v : ℤ) → IsValid i → cs ≡ cuts → ps ≡ prices.cuts
      → ((x : Shift × Rule) → slice_get (shift_list i) s ≡ Some x → AreSumsByDay i x.0 prices.slots lanes) → day < i.days
      → IsGreatest (Completes rule shift.len []) (whole_worth cs ps s day (sums_on day lanes) rule shift.len []) v → unsigned_abs v ≤ 2 ^ 74 → IsValue i cuts prices s day v
  own_value cuts cs prices ps lanes day v valid same_cuts same_prices of less g size =
      let o = slice_get (shift_list i) s in
      let x = shift_some o (λ y. shift ≡ y.0) own_shift in
      let sums = sums_on day lanes in
      value_is i cuts prices s day sums x.0 x.1 (shift_short i valid x.0 (Has_at (shift_list i) s x.0 x.1)) ((of x.0 x.1).each day less) v
      (subst (λ (r : Rule). IsGreatest (Completes r x.0.0.len []) (whole_worth cuts prices.cuts s day sums r x.0.0.len []) v) (shift_at o x.0 (λ y. rule ≡ y.1) x.1 own_rule)
      (subst (λ (z : Shift). IsGreatest (Completes rule z.len []) (whole_worth cuts prices.cuts s day sums rule z.len []) v) x.2
      (subst (λ (qs : List ℕ). IsGreatest (Completes rule shift.len []) (whole_worth cuts qs s day sums rule shift.len []) v) same_prices
      (subst (λ (ds : List Cut). IsGreatest (Completes rule shift.len []) (whole_worth ds ps s day sums rule shift.len []) v) same_cuts g)))) size

-- the values of one day more
pub values_set : (i : Problem) (cuts : List Cut) (prices : Prices) (s day k : ℕ) (values : List ℤ) (v w : ℤ) → k ≡ day → day < length values → w ≡ v → AreValues i cuts prices s day values → IsValue i cuts prices s day v
    → AreValues i cuts prices s (day + 1) (set values k w)
values_set i cuts prices s day k values v w here inside is before value =
    subst (λ (n : ℕ). AreValues i cuts prices s (day + 1) (set values n w)) (sym here) (record { each = λ d l. by d l })
  where
    by : (d : ℕ) → d < day + 1 → IsValue i cuts prices s d (sum_at (set values day w) d)
    by d l =
        elim (cases_lt d day) [
          | inl less ↦ subst (IsValue i cuts prices s d) (sym (get_or-set_other values day d w (pos 0) (omega arith))) (before.each d less)
          | inr last ↦
              let at : d ≡ day = omega arith in
              subst (λ (n : ℕ). IsValue i cuts prices s n (sum_at (set values day w) n)) (sym at)
              (subst (IsValue i cuts prices s day) (sym (get_or-set_same values day w (pos 0) inside ∙ is)) value)
        ]
