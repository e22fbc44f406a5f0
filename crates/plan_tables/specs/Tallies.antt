-- What is added up of a plan: over slots, over days, and as the parts of its cost.
use Rattle.std.specs.Prelude.{ℕ, ◌*◌, ◌/◌, Bool, ◌==◌, List, map, sum_by, count_by, slice_get}
use Rattle.std.specs.Option.{option_map_or}
use Rattle.std.specs.List.{range_with_len}
use Rattle.shift_instance.specs.declared.Duty.{Duty}
use Rattle.shift_instance.specs.Problem.{Problem, day_slots, slots, need_at, need_max_at, shift_list, slot_of, below}
use Rattle.shift_instance.specs.Rota.{cover, shifts_used}
use Rattle.plan_tables.specs.declared.summary.CostPart.{CostPart}
use Rattle.plan_tables.specs.declared.summary.DaySummary.{DaySummary}
use Rattle.plan_tables.specs.declared.tallies.Totals.{Totals}
use Rattle.plan_tables.specs.Attendance.{over_at, under_at}

-- the least and the most wanted employees, those at work, those above the bands and those that lack, added up over slots
abbrev pub totals_in : Problem → List Duty → List ℕ → Totals
totals_in i rota ts = record {
  wanted = sum_by (need_at i) ts;
  wanted_max = sum_by (need_max_at i) ts;
  worked = sum_by (cover i rota) ts;
  over = sum_by (over_at i rota) ts;
  under = sum_by (under_at i rota) ts;
}

-- the slots of a day, counted from 0
abbrev pub slots_of_day : Problem → ℕ → List ℕ
slots_of_day i day = range_with_len (day * day_slots i) (day_slots i)

-- the slot of the planning period in which duties of a shift on a day start, and 0 where there is no such shift
abbrev pub first_slot : Problem → ℕ → ℕ → ℕ
first_slot i s day = option_map_or (λ x. slot_of i x.0 day 0) (slice_get (shift_list i) s) 0

-- whether a duty starts on a day, counted from 0
abbrev pub starts_on : Problem → ℕ → Duty → Bool
starts_on i day d = (first_slot i d.shift d.day / day_slots i) == day

-- a day, counted from 0: how many duties start on it, and the totals of its slots
abbrev pub day_summary : Problem → List Duty → ℕ → DaySummary
day_summary i rota day = record { duties = count_by (starts_on i day) rota; totals = totals_in i rota (slots_of_day i day) }

-- the days of the planning period, from the first
abbrev pub day_summaries : Problem → List Duty → List DaySummary
day_summaries i rota = map (day_summary i rota) (below i.days)

-- a part of a cost: so much at a weight
abbrev pub part : ℕ → ℕ → CostPart
part weight amount = record { weight = weight; amount = amount; cost = weight * amount }

-- the three parts of what a rota costs: excess, shortage, and the shifts used
abbrev pub excess_part : Problem → List Duty → CostPart
excess_part i rota = part i.excess (sum_by (over_at i rota) (below (slots i)))

abbrev pub shortage_part : Problem → List Duty → CostPart
shortage_part i rota = part i.shortage (sum_by (under_at i rota) (below (slots i)))

abbrev pub shifts_part : Problem → List Duty → CostPart
shifts_part i rota = part i.shift (shifts_used i rota)
