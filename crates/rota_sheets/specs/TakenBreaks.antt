-- The breaks of a plan by the time at which they are taken.
use Rattle.std.specs.Prelude.{List, [], map, slice_get}
use Rattle.std.specs.Option.{option_map_or}
use Rattle.std.specs.List.{flat_map}
use Rattle.std.specs.List.Sorted.{IsPermutation, IsSorted}
use Rattle.std.specs.Ordering.{nat_cmp, ordering_then}
use Rattle.std.specs.declared.cmp.Ordering.{Ordering}
use Rattle.break_rules.specs.declared.Break.{Break}
use Rattle.shift_instance.specs.declared.Row.{Row}
use Rattle.shift_instance.specs.declared.Shift.{Shift}
use Rattle.shift_instance.specs.Problem.{Problem, shift_list, slot_of}
use Rattle.rota_sheets.specs.declared.breaks.TakenBreak.{TakenBreak}

-- a break of a row of a shift: the slot of the planning period in which it begins, its length, its shift, and how many take it
abbrev pub taken_break : Problem → Shift → Row → Break → TakenBreak
taken_break i x r b = record { begin = slot_of i x r.day b.start; len = b.len; shift = r.shift; count = r.count }

-- the breaks of a row, and none where its shift isn't in the shift list
abbrev pub breaks_of_row : Problem → Row → List TakenBreak
breaks_of_row i r = option_map_or (λ x. map (taken_break i x.0 r) r.breaks) (slice_get (shift_list i) r.shift) []

-- by the slot in which they begin, then by length, then by shift
abbrev pub break_cmp : TakenBreak → TakenBreak → Ordering
break_cmp a b = ordering_then (ordering_then (nat_cmp a.begin b.begin) (nat_cmp a.len b.len)) (nat_cmp a.shift b.shift)

-- these are the breaks of all rows, in that order
pub record AreTakenBreaks (i : Problem) (rows : List Row) (taken : List TakenBreak) : Type 0 where
  pub all : IsPermutation (flat_map (breaks_of_row i) rows) taken
  pub ordered : IsSorted break_cmp taken
