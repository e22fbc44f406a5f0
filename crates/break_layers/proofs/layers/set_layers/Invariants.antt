use Rattle.break_layers.proofs.Common.{◌≡◌, ◌+◌, ◌*◌, ◌<◌, ℕ, length, map, AreSums, AreLayersBefore}
use Rattle.break_layers.proofs.layers.set_layers.Given as goal

abbrev pub invariant-loop-number : goal.invariant-loop-number
invariant-loop-number g l = record {
  most : length l.most.items ≡ l.len + 1;
  row : length l.row.items ≡ l.len + 1;
  many : length l.table.items ≡ l.number * (l.len + 1);
  known : (day : ℕ) → day < g.N.Number.days → AreSums l.len (map (g.N.Number.on day) l.sums) → AreLayersBefore l.rule l.len (map (g.N.Number.on day) l.sums) (l.number * (l.len + 1)) (map (g.N.Number.on day) l.table.items);
}
