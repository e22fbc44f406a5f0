-- The legal duties below a class, in order, and what a walk over them finds.
use Rattle.std.specs.Prelude.{◌≡◌, ℕ, ◌<◌, Bool, not, ◌||◌, nat_lt, List, ◌++◌, Option, None, IsSomeAnd, length, take, map, slice_get}
use Rattle.std.specs.List.{filter, find, flat_map}
use Rattle.break_rules.specs.declared.Break.{Break}
use Rattle.break_rules.specs.Breaks.{begins_with}
use Rattle.shift_instance.specs.declared.Duty.{Duty}
use Rattle.shift_instance.specs.declared.Row.{Row}
use Rattle.shift_instance.specs.Problem.{Problem, shift_list, below}
use Rattle.shift_instance.specs.Rota.{lists_of}
use Rattle.list_walks.specs.declared.steps.Standing.{Standing}
use Rattle.list_walks.specs.Stands.{Walks, Stands}
use Rattle.head_splits.specs.declared.Cut.{Cut}
use Rattle.head_splits.specs.Cuts.{high}
use Rattle.head_splits.specs.Settled.{class_of, is_closed, is_fixed, fixed_count}
use Rattle.shift_instance.specs.AllDuties.{row_of}

-- the legal lists of a shift that begin with some breaks
abbrev pub lists_below : Problem → ℕ → List Break → List (List Break)
lists_below i s prefix = filter (λ list. begins_with list prefix) (lists_of i s)

-- the duties of a shift on a day with these lists
abbrev pub duties_below : Problem → ℕ → ℕ → List Break → List Duty
duties_below i s day prefix = map (λ list. record { shift = s; day = day; breaks = list }) (lists_below i s prefix)

-- whether cuts leave the number of a duty open
abbrev pub is_open : Problem → List Cut → Duty → Bool
is_open i cuts d = not (is_closed i cuts d || is_fixed i cuts d)

-- the rows of duties whose numbers are fixed
abbrev pub rows_of : Problem → List Cut → List Duty → List Row
rows_of i cuts duties = map (λ d. row_of d (fixed_count i cuts d)) (filter (λ d. nat_lt 0 (fixed_count i cuts d)) duties)

-- the first of some duties whose number is open is found; where there is none, the rows of all have joined those before
pub record IsWalked (i : Problem) (cuts : List Cut) (duties : List Duty) (found : Option Duty) (before after : List Row) : Type 0 where
  pub first : found ≡ find (is_open i cuts) duties
  pub rows : found ≡ None → after ≡ before ++ rows_of i cuts duties

-- walks over the legal lists of a shift
abbrev pub AreWalksOf : Problem → ℕ → Walks → Type 0
AreWalksOf i s walks = IsSomeAnd (slice_get (shift_list i) s) (λ x. (walks.rule ≡ x.1) × (walks.len ≡ x.0.len))

-- a list of breaks stands somewhere on the walks of a shift
abbrev pub StandsOn : Problem → ℕ → Walks → Standing → List Break → Type 0
StandsOn i s walks at list = AreWalksOf i s walks × Stands walks at list

-- cuts leave room to each proper prefix of a list
abbrev pub IsClear : Problem → List Cut → ℕ → ℕ → List Break → Type 0
IsClear i cuts s day list = (n : ℕ) → n < length list → 0 < high i cuts (class_of s day (take n list))

-- the legal duties of a shift
abbrev pub shift_duties : Problem → ℕ → List Duty
shift_duties i s = flat_map (λ day. map (λ list. record { shift = s; day = day; breaks = list }) (lists_of i s)) (below i.days)
