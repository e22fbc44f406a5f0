use Rattle.advisers.proofs.Common.{◌≡◌, ◌<◌, ◌≤◌, All, length, flat_map, below, shift_list, rota_of, duties_on}
use Rattle.advisers.proofs.choosing.used_rows.Given as goal

abbrev pub invariant-loop-day : goal.invariant-loop-day
invariant-loop-day l = record {
  rota : rota_of l.rows.items ≡ flat_map (duties_on l.instance l.cuts l.pricer.prices l.shift) (below l.day);
  known : All (λ r. r.shift < length (shift_list l.instance)) l.rows.items;
  few : length l.rows.items ≤ l.day;
}
