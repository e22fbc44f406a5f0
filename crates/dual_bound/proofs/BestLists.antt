-- What the search for a best break list finds.
use Rattle.dual_bound.proofs.Common.{◌≡◌, inl, inr, ℕ, ◌^◌, ◌≤◌, ℤ, ◌≤ℤ◌, ◌<ℤ◌, Bool, true, false, cond, not, List, [], ◌∷◌, length, Option, Some, None, refl, sym, ap, ◌∙◌, subst, int_lt, slice_get, MatchOption, list_any, find, zip, ints, cases_Bool, false≢true, arith, Break, Has, Sorted, any_some, any_none, Problem, shift_list, is_list_of, lists_of, IsValid, worth, IsBest, Has-lists_of, from_lists_of, Cut, Prices, are_prices, entries_of, is_nil, reduced_is_worth, IsValue, best_list, is_greatest, value_with, IsBestOn}
use Rattle.std.specs.Option.{option_map}
use Rattle.break_rules.proofs.Ordered.{IsLess}
use Rattle.shift_instance.proofs.AllDuties.{Sorted-lists_of}
use Rattle.patterns.specs.declared.Pattern.{Pattern}
use Rattle.dual_bound.proofs.Values.{value_of_best, nil_without}

-- in a list that is in order, an element that passes is found where none before it passes
find_least : {X : Type 0} (R : X → X → Type 0) (p : X → Bool) (xs : List X) (x : X) → Sorted R xs → Has xs x → p x ≡ true → ((y : X) → Has xs y → p y ≡ true → R y x → ⊥) → find p xs ≡ Some x
find_least R p [] x s m t least = absurd m
find_least R p (y ∷ ys) x s m t least =
    elim m [
      | inl e ↦ ap (λ b. cond b (Some y) (find p ys)) (ap p e ∙ t) ∙ ap (λ z. Some z) e
      | inr r ↦ elim (cases_Bool (p y)) [
        | inl h ↦ absurd (least y (inl refl) h (s.0 x r))
        | inr f ↦ ap (λ b. cond b (Some y) (find p ys)) f ∙ find_least R p ys x s.1 r t (λ z n. least z (inr n))
      ]
    ]

not_true : (b : Bool) → not b ≡ true → b ≡ false
not_true true h = absurd (false≢true h)
not_true false h = refl

lt_true : (a b : ℤ) → int_lt a b ≡ true → a <ℤ b
lt_true a b h = grind (arith, ints)

lt_false : (a b : ℤ) → int_lt a b ≡ false → b ≤ℤ a
lt_false a b h = grind (arith, ints)

-- a list that is the least of greatest worth is the best list
pub best_found : (i : Problem) (cuts : List Cut) (prices : Prices) (s day : ℕ) (list : List Break) (value : ℤ) → IsBest i s day prices.slots (entries_of (zip cuts prices.cuts) s day) list value → best_list i cuts prices s day ≡ Some list
unfolding best_list
best_found i cuts prices s day list value b =
    let f : List Break → ℤ = value_with i cuts prices s day in
    let lists = lists_of i s in
    let worths : List Break → ℤ = λ l. worth i prices.slots (entries_of (zip cuts prices.cuts) s day) (record { shift = s; day = day; breaks = l }) in
    let same_worth : (l : List Break) → worths l ≡ f l = λ l. sym (reduced_is_worth i cuts prices (record { shift = s; day = day; breaks = l })) in
    let is : value ≡ f list = b.is_worth ∙ same_worth list in
    find_least IsLess (is_greatest i cuts prices s day) lists list (Sorted-lists_of (slice_get (shift_list i) s)) (Has-lists_of i s list b.legal)
    (elim (cases_Bool (list_any (λ other. int_lt (f list) (f other)) lists)) [
      | inl t ↦
          let other = any_some (λ other. int_lt (f list) (f other)) lists t in
          let more : f list <ℤ f other.0 = lt_true (f list) (f other.0) other.2 in
          let most : worths other.0 ≤ℤ value = b.greatest other.0 (from_lists_of i s other.0 other.1) in
          absurd (beyond (f list) (f other.0) (worths other.0) value more most (same_worth other.0) is)
      | inr e ↦ ap not e
    ])
    (λ y m g less.
    let none : list_any (λ other. int_lt (f y) (f other)) lists ≡ false = not_true (list_any (λ other. int_lt (f y) (f other)) lists) g in
    let up : f list ≤ℤ f y = lt_false (f y) (f list) (any_none (λ other. int_lt (f y) (f other)) lists list none (Has-lists_of i s list b.legal)) in
    let legal = from_lists_of i s y m in
    let most : worths y ≤ℤ value = b.greatest y legal in
    false≢true (sym (b.least y legal (level (f list) (f y) (worths y) value up most (same_worth y) is)) ∙ less))
  where
    beyond : (a b w v : ℤ) → a <ℤ b → w ≤ℤ v → w ≡ b → v ≡ a → ⊥
    beyond a b w v h m e f = omega (arith, ints)

    level : (a b w v : ℤ) → a ≤ℤ b → w ≤ℤ v → w ≡ b → v ≡ a → w ≡ v
    level a b w v h m e f = omega (arith, ints)

-- what the search for it finds
module _ (i : Problem) (cuts : List Cut) (prices : Prices) (s day : ℕ) (slots : List ℤ) (entries : List (List Break × ℤ)) (valid : IsValid i) (h : are_prices i cuts prices ≡ true) (few : length cuts ≤ 2 ^ 33)
    (same_slots : slots ≡ prices.slots) (same_entries : entries ≡ entries_of (zip cuts prices.cuts) s day) where
  pub best_on : (found : Option (Pattern × ℤ)) (p : Pattern) (value : ℤ) (A : Type 0) → found ≡ Some (p, value) → MatchOption found A (λ q. IsBest i s day slots entries q.0.list q.1) → IsBestOn i cuts prices s day p.list value
  best_on found p value A is matches =
      let best : IsBest i s day prices.slots (entries_of (zip cuts prices.cuts) s day) p.list value =
      subst (λ (xs : List ℤ). IsBest i s day xs (entries_of (zip cuts prices.cuts) s day) p.list value) same_slots
      (subst (λ (es : List (List Break × ℤ)). IsBest i s day slots es p.list value) same_entries
      (subst (λ (o : Option (Pattern × ℤ)). MatchOption o A (λ q. IsBest i s day slots entries q.0.list q.1)) is matches)) in
      record {
        best = best_found i cuts prices s day p.list value best;
        valued = value_of_best i cuts prices s day p.list value valid h few best;
      }

pub none_on : (i : Problem) (s : ℕ) (found : Option (Pattern × ℤ)) (B : Pattern × ℤ → Type 0) → found ≡ None → MatchOption found ((list : List Break) → is_list_of i s list ≡ false) B → is_nil (lists_of i s) ≡ true
none_on i s found B is matches =
    nil_without i s (subst (λ (o : Option (Pattern × ℤ)). MatchOption o ((list : List Break) → is_list_of i s list ≡ false) B) is matches)

-- the value alone of what was found
pub values_of : (i : Problem) (cuts : List Cut) (prices : Prices) (s day : ℕ) (found : Option (List Break × ℤ)) (r : Option ℤ) (A : Type 0)
    → MatchOption found A (λ b. IsBestOn i cuts prices s day b.0 b.1) → r ≡ option_map (λ b. b.1) found → MatchOption r A (IsValue i cuts prices s day)
values_of i cuts prices s day None r A best is = subst (λ (o : Option ℤ). MatchOption o A (IsValue i cuts prices s day)) (sym is) best
values_of i cuts prices s day (Some b) r A best is = subst (λ (o : Option ℤ). MatchOption o A (IsValue i cuts prices s day)) (sym is) best.valued
