use Rattle.rota_cost.proofs.Common.{◌≡◌, changed, slots_cost}
use Rattle.rota_cost.proofs.Marks.{IsMarked}
use Rattle.rota_cost.proofs.cover.change_slots.Given as goal

abbrev pub invariant-loop-offset : goal.invariant-loop-offset
invariant-loop-offset l = record {
  marked : IsMarked l.instance l.duty (changed l.change) l.initial.working l.working l.offset;
  cost : l.changing ≡ slots_cost l.instance l.working;
}
