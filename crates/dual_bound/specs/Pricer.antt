-- Prices with the best break lists at them, kept while the prices change.
use Rattle.std.specs.Prelude.{◌≡◌, ℕ, ◌<◌, ◌≤◌, ◌^◌, ℤ, List, Option, None, IsTrue, MatchOption, length, slice_index_or}
use Rattle.break_rules.specs.declared.Break.{Break}
use Rattle.shift_instance.specs.Problem.{Problem, shift_list}
use Rattle.shift_instance.specs.Rota.{lists_of}
use Rattle.head_splits.specs.declared.Cut.{Cut}
use Rattle.head_splits.specs.declared.Prices.{Prices}
use Rattle.head_splits.specs.Bound.{are_prices, bound_of, is_nil}
use Rattle.pricing.specs.Days.{best_at}
use Rattle.dual_bound.specs.BestLists.{IsBestOn}

-- an instance, cuts, and a price set for them
pub record Pricing : Type 0 where
  pub instance : Problem
  pub cuts : List Cut
  pub prices : Prices

-- the best lists of a shift on the first days, each with its reduced value, one after another
pub record AreBests (i : Problem) (cuts : List Cut) (prices : Prices) (s days : ℕ) (bests : List (List Break × ℤ)) : Type 0 where
  pub count : length bests ≡ days
  pub each : (day : ℕ) → day < days → IsBestOn i cuts prices s day (best_at bests day).0 (best_at bests day).1

-- those of a shift on all days, and none only where no list is legal
abbrev pub AreBestsOf : Problem → List Cut → Prices → ℕ → Option (List (List Break × ℤ)) → Type 0
AreBestsOf i cuts prices s found = MatchOption found (IsTrue (is_nil (lists_of i s))) (AreBests i cuts prices s i.days)

-- those of the first shifts, one after another
pub record AreBestsBelow (i : Problem) (cuts : List Cut) (prices : Prices) (shifts : ℕ) (bests : List (Option (List (List Break × ℤ)))) : Type 0 where
  pub count : length bests ≡ shifts
  pub each : (s : ℕ) → s < shifts → AreBestsOf i cuts prices s (slice_index_or bests s None)

-- those of all shifts
abbrev pub AreAllBests : Problem → List Cut → Prices → List (Option (List (List Break × ℤ))) → Type 0
AreAllBests i cuts prices bests = AreBestsBelow i cuts prices (length (shift_list i)) bests

-- what is kept of a price set: its bound and the best lists at it
pub record IsPriced (p : Pricing) (bound : ℕ) (bests : List (Option (List (List Break × ℤ)))) : Type 0 where
  pub few : length p.cuts ≤ 2 ^ 33
  pub passes : IsTrue (are_prices p.instance p.cuts p.prices)
  pub exact : bound ≡ bound_of p.instance p.cuts p.prices
  pub known : AreAllBests p.instance p.cuts p.prices bests
