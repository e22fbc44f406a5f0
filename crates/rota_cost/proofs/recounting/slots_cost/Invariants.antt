use Rattle.rota_cost.proofs.Common.{◌≡◌, ◌≤◌, ◌*◌, ◌^◌, sum_by, get_or, below, slot_cost}
use Rattle.rota_cost.proofs.recounting.slots_cost.Given as goal

abbrev pub invariant-loop-t : goal.invariant-loop-t
invariant-loop-t l = record {
  total : l.total ≡ sum_by (λ t. slot_cost l.instance t (get_or l.counts t 0)) (below l.t);
  few : l.total ≤ l.t * (215 * 10 ^ 9);
}
