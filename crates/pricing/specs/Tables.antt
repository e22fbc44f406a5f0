-- Tables of a shift on a day: what they stand for, what a change of prices is, and how much work it may take.
use Rattle.std.specs.Prelude.{◌≡◌, ℕ, ◌+◌, ◌<◌, ◌≤◌, ◌==◌, ℤ, Bool, true, false, IsTrue, List, ◌∷◌, fold, length, slice_set, slice_get, Some}
use Rattle.std.specs.List.{list_any}
use Rattle.break_rules.specs.declared.Break.{Break}
use Rattle.break_rules.specs.declared.Rule.{Rule}
use Rattle.break_rules.specs.declared.Spot.{Spot}
use Rattle.break_rules.specs.Bonuses.{bonus_of}
use Rattle.break_rules.specs.Walk.{end_of_all, spot_of, is_walk}
use Rattle.break_rules.specs.Lists.{Has}
use Rattle.shift_instance.specs.declared.Shift.{Shift}
use Rattle.shift_instance.specs.Problem.{Problem, shift_list, slot_of}
use Rattle.pricing.specs.Found.{leads_further}

-- an instance, a shift and a day of it, a price for each slot, and bonuses
pub record Tabled : Type 0 where
  pub instance : Problem
  pub shift : ℕ
  pub day : ℕ
  pub prices : List ℤ
  pub bonus : List (List Break × ℤ)

-- the shift with its rule
abbrev pub IsShiftOf : Problem → ℕ → Shift × Rule → Type 0
IsShiftOf i s x = slice_get (shift_list i) s ≡ Some x

-- bonuses that mean the same as others: they come to as much for each list, and their prefixes have the same beginnings
pub record MeanTheSame (kept bonus : List (List Break × ℤ)) : Type 0 where
  pub sums : (list : List Break) → bonus_of kept list ≡ bonus_of bonus list
  pub beginnings : (front : List Break) → leads_further kept front ≡ leads_further bonus front

-- the prices after some changes, each of the price of a slot, the later ones over the earlier ones
abbrev pub repriced : List ℤ → List (ℕ × ℤ) → List ℤ
repriced prices changes = fold (λ list change. slice_set list change.0 change.1) prices changes

-- whether a change names the slot at an offset of a shift on a day
abbrev pub is_named : Problem → Shift → ℕ → List (ℕ × ℤ) → ℕ → Bool
is_named i shift day changes offset = list_any (λ change. change.0 == slot_of i shift day offset) changes

-- no change names a slot at an offset of a shift on a day
abbrev pub NameNone : Problem → Shift → ℕ → List (ℕ × ℤ) → Type 0
NameNone i shift day changes = (offset : ℕ) → offset < shift.len → is_named i shift day changes offset ≡ false

-- no change names a slot at an offset above one
abbrev pub NameNoneAbove : Problem → Shift → ℕ → List (ℕ × ℤ) → ℕ → Type 0
NameNoneAbove i shift day changes last = (offset : ℕ) → last < offset → offset < shift.len → is_named i shift day changes offset ≡ false

-- among some spots is each one up to an offset to which a walk from break to break leads
abbrev pub HaveSpotsUpTo : Rule → ℕ → ℕ → List Spot → Type 0
HaveSpotsUpTo rule len last spots = (list : List Break) → IsTrue (is_walk rule len list) → end_of_all list ≤ last → Has spots (spot_of rule list)

-- among some lists is each beginning of a bonus's prefix but the empty one
abbrev pub HaveBeginnings : List (List Break × ℤ) → List (List Break) → Type 0
HaveBeginnings bonus lists = (b : Break) (bs : List Break) → leads_further bonus (b ∷ bs) ≡ true → Has lists (b ∷ bs)

-- so many steps are no more than one for each different spot up to an offset to which a walk leads, and one for each different beginning of a
-- bonus's prefix but the empty one: the shortest lists that have all of these have each of them once
abbrev pub AreStepsUpTo : Rule → ℕ → ℕ → List (List Break × ℤ) → ℕ → Type 0
AreStepsUpTo rule len last bonus steps =
    (spots : List Spot) (lists : List (List Break)) → HaveSpotsUpTo rule len last spots → HaveBeginnings bonus lists → steps ≤ length spots + length lists
