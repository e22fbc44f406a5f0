use Rattle.plan_page.proofs.Common.{◌≡◌, ◌++◌, take, string_bytes, flat_map, costly_row}
use Rattle.plan_page.proofs.overview.add_costly_slots.Given as goal

abbrev pub invariant-loop-slot : goal.invariant-loop-slot
invariant-loop-slot l = string_bytes l.page ≡ string_bytes l.fn.page ++ flat_map (costly_row l.instance) (take l.slot-index l.slots)
