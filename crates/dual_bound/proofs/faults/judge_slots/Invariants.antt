use Rattle.dual_bound.proofs.Common.{◌≡◌, drop, map, enumerate_from, first_cause, slot_cause, slot_causes}
use Rattle.dual_bound.proofs.faults.judge_slots.Given as goal

abbrev pub invariant-loop-slot : goal.invariant-loop-slot
invariant-loop-slot l = first_cause (map (slot_cause l.instance l.q) (enumerate_from l.slot (drop l.slot l.prices))) ≡ first_cause (slot_causes l.instance l.q l.prices)
