-- The values of the duties of a shift that no cut with a prefix bounds, by the prices of slots alone.
use Rattle.dual_bound.proofs.Common.{◌≡◌, ℕ, ◌≤◌, ◌^◌, ℤ, Bool, true, false, cond, not, ◌&&◌, ◌==◌, List, [], ◌∷◌, length, map, Option, Some, None, refl, sym, ap, ◌∙◌, subst, MatchOption, list_any, zip, filter, or_parts, Break, Problem, is_list_of, lists_of, IsValid, IsBest, AreMostByDay, IsMostOn, AreBestByDay, best_at, Cut, Prices, are_prices, entries_of, is_nil, AreValues, IsValue, IsBestOn, AreBestsOf}
use Rattle.dual_bound.proofs.Entries.{entry_of, is_of}
use Rattle.dual_bound.proofs.BestLists.{best_found}
use Rattle.dual_bound.proofs.Values.{nil_without, value_of_best}

-- whether a cut is one of a shift, with some prefix
abbrev pub is_on_prefix : ℕ → Cut → Bool
is_on_prefix s c = not (is_nil c.class.prefix) && (s == c.class.shift)

-- where no cut with a prefix is one of the shift, there is no entry
entries_none : (cuts : List Cut) (prices : List ℕ) (s day : ℕ) → list_any (is_on_prefix s) cuts ≡ false → entries_of (zip cuts prices) s day ≡ []
entries_none [] prices s day none = refl
entries_none (c ∷ cs) [] s day none = refl
entries_none (c ∷ cs) (p ∷ ps) s day none =
    let parts = or_parts (is_on_prefix s c) (list_any (is_on_prefix s) cs) none in
    let rest = filter (is_of s day) (zip cs ps) in
    ap (λ (b : Bool). map entry_of (cond (b && (day == c.class.day)) ((c, p) ∷ rest) rest)) parts.0 ∙ entries_none cs ps s day parts.1

module _ (i : Problem) (cuts : List Cut) (prices : Prices) (s : ℕ) (valid : IsValid i) (h : are_prices i cuts prices ≡ true) (few : length cuts ≤ 2 ^ 33) (none : list_any (is_on_prefix s) cuts ≡ false) where
  -- what the best duty earns is the value
  value_of_most : (day : ℕ) (v : ℤ) → IsMostOn i s day prices.slots v → IsValue i cuts prices s day v
  value_of_most day v most =
      value_of_best i cuts prices s day most.0 v valid h few
      (subst (λ (entries : List (List Break × ℤ)). IsBest i s day prices.slots entries most.0 v) (sym (entries_none cuts prices.cuts s day none)) most.1)

  -- what the best duties earn, day by day, are the values, and without a list there is none
  pub values_of_most : (slots : List ℤ) (found : Option (List ℤ)) → slots ≡ prices.slots
      → MatchOption found ((list : List Break) → is_list_of i s list ≡ false) (AreMostByDay i s slots i.days)
      → MatchOption found (is_nil (lists_of i s) ≡ true) (AreValues i cuts prices s i.days)
  values_of_most slots None same no_list = nil_without i s no_list
  values_of_most slots (Some values) same most =
      let at_prices : AreMostByDay i s prices.slots i.days values = subst (λ (xs : List ℤ). AreMostByDay i s xs i.days values) same most in
      record { each = λ day less. value_of_most day _ (at_prices.each day less) }

  -- the best list by the prices of slots is the best one
  best_of_slots : (day : ℕ) (b : List Break × ℤ) → IsBest i s day prices.slots [] b.0 b.1 → IsBestOn i cuts prices s day b.0 b.1
  best_of_slots day b best =
      let own : IsBest i s day prices.slots (entries_of (zip cuts prices.cuts) s day) b.0 b.1 =
      subst (λ (entries : List (List Break × ℤ)). IsBest i s day prices.slots entries b.0 b.1) (sym (entries_none cuts prices.cuts s day none)) best in
      record { best = best_found i cuts prices s day b.0 b.1 own; valued = value_of_best i cuts prices s day b.0 b.1 valid h few own }

  -- the best lists by the prices of slots, day by day, are the best ones, and without a list there is none
  pub bests_of_slots : (slots : List ℤ) (found : Option (List (List Break × ℤ))) → slots ≡ prices.slots
      → MatchOption found ((list : List Break) → is_list_of i s list ≡ false) (AreBestByDay i s slots i.days) → AreBestsOf i cuts prices s found
  bests_of_slots slots None same no_list = nil_without i s no_list
  bests_of_slots slots (Some bests) same best =
      let at_prices : AreBestByDay i s prices.slots i.days bests = subst (λ (xs : List ℤ). AreBestByDay i s xs i.days bests) same best in
      record {
        count = at_prices.count;
        each = λ day less. best_of_slots day (best_at bests day) (at_prices.each day less);
      }
