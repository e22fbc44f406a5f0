-- What is kept of the values of duties from one price set to the next.
use Rattle.std.specs.Prelude.{◌≡◌, ℕ, ◌<◌, ℤ, pos, Bool, ◌&&◌, ◌==◌, not, List, [], length, get_or, Option, None, IfSome, if◌then◌else◌}
use Rattle.std.specs.List.{list_any}
use Rattle.std.specs.Ordering.{int_eq}
use Rattle.shift_instance.specs.Problem.{Problem, shift_list}
use Rattle.shift_instance.specs.Worth.{price_of}
use Rattle.head_splits.specs.declared.Cut.{Cut}
use Rattle.head_splits.specs.declared.Prices.{Prices}
use Rattle.head_splits.specs.Bound.{is_nil}
use Rattle.bound_sums.specs.Values.{AreValues}

-- whether some cut bounds duties of a shift that begin with some break
abbrev pub has_prefix_cut : List Cut → ℕ → Bool
has_prefix_cut cuts s = list_any (λ c. not (is_nil c.class.prefix) && (s == c.class.shift)) cuts

-- the prices of slots alone, without cuts
abbrev pub of_slots : List ℤ → Prices
of_slots prices = record { q = 1; slots = prices; cuts = [] }

-- what is known of a shift, if anything, are the values of its duties at the prices of slots alone
abbrev pub IsKept : Problem → List ℤ → ℕ → Option (List ℤ) → Type 0
IsKept i prices s known = IfSome known (AreValues i [] (of_slots prices) s i.days)

-- what is known of each shift, by its number
abbrev pub KeepsEach : Problem → List ℤ → List (Option (List ℤ)) → Type 0
KeepsEach i prices known = (s : ℕ) → IsKept i prices s (get_or known s None)

-- what is kept: slot prices, and what is known at them, which has a place for each shift as soon as there are prices
pub record AreKept (i : Problem) (prices : List ℤ) (known : List (Option (List ℤ))) : Type 0 where
  pub each : KeepsEach i prices known
  pub full : 0 < length prices → length known ≡ length (shift_list i)

-- the mark of a slot by its price before and now: 1 where it changed, and 0 where it didn't
abbrev pub mark : ℤ → ℤ → ℤ
mark old new = if int_eq old new then pos 0 else pos 1

-- a mark for each slot
pub record AreMarks (old new marks : List ℤ) : Type 0 where
  pub count : length marks ≡ length new
  pub each : (t : ℕ) → t < length new → price_of marks t ≡ mark (price_of old t) (price_of new t)
