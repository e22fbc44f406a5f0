-- Instances that are made from a number. Source: this project's profile; multiplier and increment of the linear congruential generator are those of
-- Press, Teukolsky, Vetterling and Flannery, Numerical Recipes in C, 1992.
use Rattle.std.specs.Prelude.{ℕ, zero, suc, ◌+◌, ◌*◌, ◌/◌, ◌%◌, ◌^◌, Bool, ◌&&◌, nat_le, codes, List, [], ◌∷◌, map, count_by, if◌then◌else◌}
use Rattle.break_rules.specs.declared.Rule.{Rule}
use Rattle.shift_instance.specs.Kind.{Kind}
use Rattle.shift_instance.specs.Problem.{Problem, below}

-- the state of the generator that comes next
abbrev pub next_state : ℕ → ℕ
next_state state = (state * 1664525 + 1013904223) % 2 ^ 32

-- the state after so many steps from a number
unfoldable pub state_after : ℕ → ℕ → ℕ
state_after number zero = number
state_after number (suc steps) = next_state (state_after number steps)

-- what is drawn in a state: its upper 16 bits
abbrev pub drawn : ℕ → ℕ
drawn state = state / 65536

-- the draws of a number, one after another; the first is draw 1
abbrev pub draw : ℕ → ℕ → ℕ
draw number k = drawn (state_after number k)

-- whether a slot is busy: the hours 6 to 21 of each day are
abbrev pub is_busy : ℕ → Bool
is_busy slot = nat_le 6 (slot % 24) && nat_le (slot % 24) 21

-- the draws that are taken before a slot: each busy slot takes one, and no other does
abbrev pub draws_before : ℕ → ℕ
draws_before slot = count_by is_busy (below slot)

-- the need of a slot: of a busy one 2 plus the remainder of the next draw divided by 3, and else 1
abbrev pub need_of : ℕ → ℕ → ℕ
need_of number slot = if is_busy slot then 2 + draw number (draws_before slot + 1) % 3 else 1

-- the needs of the first slots, slot by slot
unfoldable pub needs_of : ℕ → ℕ → List ℕ
needs_of number count = map (need_of number) (below count)

-- the break rule of all types: a shift of 8 hours has one break of an hour, at least 2 hours from both ends, and no work period of more than 5 hours
abbrev pub hour_rule : Rule
hour_rule = record { lead = 2; tail = 2; work_min = 2; work_max = 5; long_work = 288; long_rest = 1; size_min = 1; size_max = 1; totals = (8, 1) ∷ []; lunches = []; resettle = 0 }

-- a type of shifts of 8 hours that start at an hour or at the next one
abbrev pub kind_from : List ℕ → ℕ → Kind
kind_from name start = record { name = name; start_min = start; start_max = start + 1; len_min = 8; len_max = 8; rule = hour_rule }

-- the types of each instance made from a number
abbrev pub generated_kinds : List Kind
generated_kinds = kind_from (codes "M") 6 ∷ kind_from (codes "A") 13 ∷ kind_from (codes "N") 21 ∷ []

-- the instance made from a number: a week of hours
unfoldable pub generated : ℕ → Problem
generated number = record {
  slot_minutes = 60;
  days = 7;
  need = needs_of number 168;
  need_max = needs_of number 168;
  heads = 12;
  excess = 1;
  shortage = 2;
  shift = 20;
  kinds = generated_kinds;
}
