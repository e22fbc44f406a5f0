-- What the best rest of no breaks earns is what the best duty of a shift on a day earns.
use Rattle.pricing.proofs.Common.{◌≡◌, ℕ, zero, suc, ◌+◌, ◌-◌, ◌<◌, ◌≤◌, ℤ, pos, false, get_or, List, [], ◌∷◌, length, refl, sym, ap, ◌∙◌, subst, arith, Option, Some, slice_get, IsSomeAnd, option_map_or, Break, Rule, is_legal, Shift, Problem, shift_list, slots, is_list_of, IsValid, IsShift, Node, IsGraph, StandsAt, sum_at, ArePricesOf, AreSums, sums_on, AreSumsByDay, some_at, Priced, IsValue, AreValues, IsMostOn, AreMostByDay}
use Rattle.pricing.proofs.Beyond.{best_prices, none_legal}
use Rattle.pricing.proofs.Worths.{some_of, short_shift, best_is}
use Rattle.pricing.proofs.Followed.{sums_of_days}

most_is : (i : Problem) (s day : ℕ) (prices sums : List ℤ) (x : Shift × Rule) → slice_get (shift_list i) s ≡ Some x → x.0.len ≤ slots i → ArePricesOf i x.0 day prices sums → (v : ℤ)
    → IsValue x.1 x.0.len sums [] v → IsMostOn i s day prices v
most_is i s day prices sums x e short of v own =
    let p : Priced = record { rule = x.1; len = x.0.len; sums = sums } in
    (own.0, best_is i s day prices sums x e short of [] own.0 v (best_prices p v v [] own.0 own.0 refl refl refl own (own.0, refl, (v, own.1))))

-- the graph of a shift is one of its rule and its length
pub own_graph : (o : Option (Shift × Rule)) (shift : Shift) (rule : Rule) (kept nodes : List Node) → IsSomeAnd o (λ y. shift ≡ y.0) → IsSomeAnd o (λ y. rule ≡ y.1) → IsSomeAnd o (λ y. IsGraph y.1 y.0.len kept)
    → nodes ≡ kept → IsGraph rule shift.len nodes
own_graph o shift rule kept nodes own_shift own_rule own same =
    let some = some_of o (λ y. shift ≡ y.0) own_shift in
    let x = some.0 in
    subst (IsGraph rule shift.len) (sym same)
    (subst (λ (r : Rule). IsGraph r shift.len kept) (sym (some_at o x (λ y. rule ≡ y.1) some.1 own_rule))
    (subst (λ (z : Shift). IsGraph x.1 z.len kept) (sym (some_at o x (λ y. shift ≡ y.0) some.1 own_shift)) (some_at o x (λ y. IsGraph y.1 y.0.len kept) some.1 own)))

some_nodes : (nodes : List Node) (k : ℕ) → k + 1 ≡ length nodes → nodes ≡ [] → ⊥
some_nodes [] k h e = absurd (omega (arith, h))
some_nodes (n ∷ ns) k h e = absurd (cc)

pub opening_at : (rule : Rule) (len : ℕ) (nodes : List Node) (k : ℕ) → IsGraph rule len nodes → k + 1 ≡ length nodes → StandsAt rule len nodes k []
opening_at rule len nodes k g last =
    let at : k ≡ length nodes - 1 = omega (arith, last) in
    subst (λ n. StandsAt rule len nodes n []) (sym at) (g.opening (some_nodes nodes k last))

-- the value of no breaks on a day is what the best duty of the day earns
pub most_of_value : (i : Problem) (s : ℕ) (prices : List ℤ) (lanes : List (List ℤ)) (shift : Shift) (rule : Rule) (day : ℕ) (v : ℤ)
    → IsSomeAnd (slice_get (shift_list i) s) (λ y. shift ≡ y.0) → IsSomeAnd (slice_get (shift_list i) s) (λ y. rule ≡ y.1)
    → IsValid i → IsShift i shift → ((x : Shift × Rule) → slice_get (shift_list i) s ≡ Some x → AreSumsByDay i x.0 prices lanes)
    → day < i.days → IsValue rule shift.len (sums_on day lanes) [] v
    → IsMostOn i s day prices v
most_of_value i s prices lanes shift rule day v own_shift own_rule valid inside of less value =
    let some = some_of (slice_get (shift_list i) s) (λ y. shift ≡ y.0) own_shift in
    let x = some.0 in
    let same_shift : shift ≡ x.0 = some_at (slice_get (shift_list i) s) x (λ y. shift ≡ y.0) some.1 own_shift in
    let same_rule : rule ≡ x.1 = some_at (slice_get (shift_list i) s) x (λ y. rule ≡ y.1) some.1 own_rule in
    let own : IsValue x.1 x.0.len (sums_on day lanes) [] v =
    subst (λ (z : Shift). IsValue x.1 z.len (sums_on day lanes) [] v) same_shift (subst (λ (r : Rule). IsValue r shift.len (sums_on day lanes) [] v) same_rule value) in
    most_is i s day prices (sums_on day lanes) x some.1 (short_shift i x.0 valid (subst (IsShift i) same_shift inside)) ((of x some.1).each day less) v own

-- the values of no breaks on all days are what the best duties earn
pub most_of_values : (i : Problem) (s : ℕ) (prices : List ℤ) (lanes : List (List ℤ)) (shift : Shift) (rule : Rule) (list : List ℤ)
    → IsSomeAnd (slice_get (shift_list i) s) (λ y. shift ≡ y.0) → IsSomeAnd (slice_get (shift_list i) s) (λ y. rule ≡ y.1)
    → IsValid i → IsShift i shift → ((x : Shift × Rule) → slice_get (shift_list i) s ≡ Some x → AreSumsByDay i x.0 prices lanes)
    → ((day : ℕ) → day < i.days → IsValue rule shift.len (sums_on day lanes) [] (get_or list day (pos 0)))
    → AreMostByDay i s prices i.days list
most_of_values i s prices lanes shift rule list own_shift own_rule valid inside of values = record {
  each = λ day less. most_of_value i s prices lanes shift rule day (get_or list day (pos 0)) own_shift own_rule valid inside of less (values day less);
}

pub none_below : (n : ℕ) → (1 ≤ n → ⊥) → n ≡ 0
none_below zero h = refl
none_below (suc n) h = absurd (h (omega arith))

-- a graph without nodes is one of a rule and a length without legal lists
pub no_nodes : (rule : Rule) (len : ℕ) (nodes : List Node) → IsGraph rule len nodes → length nodes ≡ 0 → (list : List Break) → is_legal rule len list ≡ false
no_nodes rule len nodes graph none = none_legal rule len (graph.none (empty nodes none))
  where
    empty : (ns : List Node) → length ns ≡ 0 → ns ≡ []
    empty [] h = refl
    empty (n ∷ ns) h = absurd (omega (arith, h))

-- and of a shift without them
pub no_list : (i : Problem) (s : ℕ) (kept nodes : List Node) → IsSomeAnd (slice_get (shift_list i) s) (λ y. IsGraph y.1 y.0.len kept) → nodes ≡ kept → length nodes ≡ 0 → (list : List Break) → is_list_of i s list ≡ false
no_list i s kept nodes own same none list =
    let some = some_of (slice_get (shift_list i) s) (λ y. IsGraph y.1 y.0.len kept) own in
    let x = some.0 in
    let graph : IsGraph x.1 x.0.len nodes = subst (IsGraph x.1 x.0.len) (sym same) (some_at (slice_get (shift_list i) s) x (λ y. IsGraph y.1 y.0.len kept) some.1 own) in
    ap (λ o. option_map_or (λ (y : Shift × Rule). is_legal y.1 y.0.len list) o false) some.1 ∙ no_nodes x.1 x.0.len nodes graph none list

-- the values of the last node on all days are what the best duties earn
pub most_of_days : (i : Problem) (s : ℕ) (prices : List ℤ) (lanes values : List (List ℤ)) (shift : Shift) (rule : Rule) (nodes : List Node) (k : ℕ) (list : List ℤ)
    → IsSomeAnd (slice_get (shift_list i) s) (λ y. shift ≡ y.0) → IsSomeAnd (slice_get (shift_list i) s) (λ y. rule ≡ y.1) → IsGraph rule shift.len nodes → k + 1 ≡ length nodes
    → IsValid i → IsShift i shift → ((x : Shift × Rule) → slice_get (shift_list i) s ≡ Some x → AreSumsByDay i x.0 prices lanes)
    → ((day : ℕ) → day < 8 → AreSums shift.len (sums_on day lanes) → AreValues rule shift.len (sums_on day lanes) nodes (length nodes) (sums_on day values))
    → i.days ≤ 8 → ((day : ℕ) → day < i.days → get_or list day (pos 0) ≡ sum_at (sums_on day values) k)
    → AreMostByDay i s prices i.days list
most_of_days i s prices lanes values shift rule nodes k list own_shift own_rule graph last valid inside of known few is =
    most_of_values i s prices lanes shift rule list own_shift own_rule valid inside of
    (λ day less. subst (IsValue rule shift.len (sums_on day lanes) []) (sym (is day less))
    (known day (omega (arith, less, few)) (sums_of_days i s prices lanes shift own_shift of day less) k [] (omega (arith, last)) (opening_at rule shift.len nodes k graph last)))
