use Rattle.descents.proofs.Common.{◌≡◌, ◌≤◌, ◌*◌, sum_by, below, cover, rota_of, squared_distance}
use Rattle.descents.proofs.evening.unevenness.Given as goal

abbrev pub invariant-loop-t : goal.invariant-loop-t
invariant-loop-t l = record {
  sum : l.sum ≡ sum_by (λ t. squared_distance l.instance t (cover l.instance (rota_of l.draft.rows) t)) (below l.t);
  few : l.sum ≤ l.t * 18446744073709551616;
}
