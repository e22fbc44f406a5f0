-- What an instance of the shift design problem is.
-- Source: Musliu, Schaerf and Slany 2004, without their fourth criterion (the average number of duties); with three weighted criteria the problem
-- is known as Minimum Shift Design (Di Gaspero and others 2007). The cap on duties of one shift and day and the break rules are this project's profile.
use Rattle.std.specs.Prelude.{ℕ, ◌+◌, ◌-◌, ◌*◌, ◌/◌, ◌%◌, List, map, slice_index}
use Rattle.std.specs.List.{flat_map, range_with_len, enumerate_from}
use Rattle.break_rules.specs.declared.Rule.{Rule}
use Rattle.shift_instance.specs.declared.Shift.{Shift}
pub use Rattle.shift_instance.specs.Kind.{Kind}

-- the numbers of an instance: the planning period, the wanted employees of each slot from the least number to the
-- greatest, the most duties of one shift on one day, the weights of excess, shortage and shifts used, and the shift types
pub record Problem : Type 0 where
  pub slot_minutes : ℕ
  pub days : ℕ
  pub need : List ℕ
  pub need_max : List ℕ
  pub heads : ℕ
  pub excess : ℕ
  pub shortage : ℕ
  pub shift : ℕ
  pub kinds : List Kind

-- the slots of a day
abbrev pub day_slots : Problem → ℕ
day_slots i = 1440 / i.slot_minutes

-- the slots of the planning period
abbrev pub slots : Problem → ℕ
slots i = i.days * day_slots i

-- the band of a slot, which is the range of its wanted employees: the least number, and the greatest
abbrev pub need_at : Problem → ℕ → ℕ
need_at i t = slice_index i.need t

abbrev pub need_max_at : Problem → ℕ → ℕ
need_max_at i t = slice_index i.need_max t

-- every number from one up to another, both included
abbrev pub from_to : ℕ → ℕ → List ℕ
from_to low high = range_with_len low (high + 1 - low)

-- every number below another
abbrev pub below : ℕ → List ℕ
below n = range_with_len 0 n

-- the shifts of a type, each with the type's rule, by start and then by length
abbrev pub shifts_of_kind : ℕ × Kind → List (Shift × Rule)
shifts_of_kind k =
    flat_map (λ start. map (λ len. (record { kind = k.0; start = start; len = len }, k.1.rule)) (from_to k.1.len_min k.1.len_max))
    (from_to k.1.start_min k.1.start_max)

-- the shift list: every shift with its rule, by type, then by start, then by length
abbrev pub shift_list : Problem → List (Shift × Rule)
shift_list i = flat_map shifts_of_kind (enumerate_from 0 i.kinds)

-- the slot at an offset of a shift on a day
abbrev pub slot_of : Problem → Shift → ℕ → ℕ → ℕ
slot_of i shift day offset = (day * day_slots i + shift.start + offset) % slots i
