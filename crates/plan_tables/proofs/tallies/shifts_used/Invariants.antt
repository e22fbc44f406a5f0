use Rattle.plan_tables.proofs.Common.{◌≡◌, ◌≤◌, count_by, below, is_used, rota_of}
use Rattle.plan_tables.proofs.tallies.shifts_used.Given as goal

abbrev pub invariant-loop-shift : goal.invariant-loop-shift
invariant-loop-shift l = record {
  used : l.used ≡ count_by (is_used (rota_of l.rows)) (below l.shift);
  few : l.used ≤ l.shift;
}
