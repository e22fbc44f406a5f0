use Rattle.plan_tables.proofs.Common.{◌≡◌, ◌++◌, take, string_bytes, flat_map, costly_line}
use Rattle.plan_tables.proofs.summary_lines.add_costly_slots.Given as goal

abbrev pub invariant-loop-slot : goal.invariant-loop-slot
invariant-loop-slot l = string_bytes l.text ≡ string_bytes l.fn.text ++ flat_map (costly_line l.instance l.width) (take l.slot-index l.slots)
