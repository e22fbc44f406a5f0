use Rattle.plan_tables.proofs.Common.{◌≡◌, filter, map, below, costly_slot, costs}
use Rattle.plan_tables.proofs.costliest.costly_slots.Given as goal

abbrev pub invariant-loop-t : goal.invariant-loop-t
invariant-loop-t l = l.found.items ≡ filter costs (map (costly_slot l.instance l.attendance.duties) (below l.t))
