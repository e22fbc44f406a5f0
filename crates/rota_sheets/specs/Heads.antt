-- How many duties of a shift start on a day.
use Rattle.std.specs.Prelude.{ℕ, Bool, ◌&&◌, ◌==◌, List, [], ◌∷◌, filter, length, slice_get}
use Rattle.std.specs.Option.{option_map_or}
use Rattle.std.specs.List.{flat_map}
use Rattle.std.specs.List.Sorted.{IsPermutation, IsSorted}
use Rattle.std.specs.Ordering.{nat_cmp, ordering_then}
use Rattle.std.specs.declared.cmp.Ordering.{Ordering}
use Rattle.shift_instance.specs.declared.Duty.{Duty}
use Rattle.shift_instance.specs.declared.Shift.{Shift}
use Rattle.shift_instance.specs.Problem.{Problem, shift_list, below}
use Rattle.shift_instance.specs.Rota.{is_used}
use Rattle.plan_tables.specs.Tallies.{starts_on}
use Rattle.rota_sheets.specs.declared.heads.UsedShift.{UsedShift}

-- whether a duty is of a shift, by its number, and starts on a day, counted from 0
abbrev pub starts_with : Problem → ℕ → ℕ → Duty → Bool
starts_with i s day d = (d.shift == s) && starts_on i day d

-- a shift with its number, and none where the shift list has none of that number
abbrev pub shift_with_number : Problem → ℕ → List UsedShift
shift_with_number i s = option_map_or (λ x. record { number = s; shift = x.0 } ∷ []) (slice_get (shift_list i) s) []

-- the shifts with a duty, in the order of the shift list
abbrev pub used_shifts : Problem → List Duty → List UsedShift
used_shifts i rota = flat_map (shift_with_number i) (filter (is_used rota) (below (length (shift_list i))))

-- by start, then by length, then by type
abbrev pub start_cmp : Shift → Shift → Ordering
start_cmp a b = ordering_then (ordering_then (nat_cmp a.start b.start) (nat_cmp a.len b.len)) (nat_cmp a.kind b.kind)

-- these are the shifts with a duty, each once, in that order
pub record AreUsedShifts (i : Problem) (rota : List Duty) (found : List UsedShift) : Type 0 where
  pub all : IsPermutation (used_shifts i rota) found
  pub ordered : IsSorted (λ a b. start_cmp a.shift b.shift) found
