use Rattle.advisers.proofs.Common.{◌≡◌, ◌<◌, ◌≤◌, ◌*◌, All, length, flat_map, below, shift_list, rota_of, duties_of}
use Rattle.advisers.proofs.choosing.solution.Given as goal

abbrev pub invariant-loop-shift : goal.invariant-loop-shift
invariant-loop-shift l = record {
  rota : rota_of l.rows.items ≡ flat_map (duties_of l.instance l.cuts l.pricer.prices) (below l.shift);
  known : All (λ r. r.shift < length (shift_list l.instance)) l.rows.items;
  few : length l.rows.items ≤ l.shift * 7;
}
