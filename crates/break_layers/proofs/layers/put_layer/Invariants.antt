use Rattle.break_layers.proofs.Common.{◌≡◌, ◌+◌, ◌*◌, ◌<◌, ℕ, List, IsTrue, length, map, Break, is_walk, end_of_all, AreSums, number_in, layer_number, layer_of, AreLayersBefore, IsReachOfAll}
use Rattle.break_layers.proofs.layers.put_layer.Given as goal

abbrev pub invariant-loop-offset : goal.invariant-loop-offset
invariant-loop-offset g l = record {
  many : length l.table.items ≡ layer_number l.rule l.len l.layer * (l.len + 1) + l.offset;
  known : (day : ℕ) → day < g.N.Number.days → AreSums l.len (map (g.N.Number.on day) l.sums)
      → AreLayersBefore l.rule l.len (map (g.N.Number.on day) l.sums) (layer_number l.rule l.len l.layer * (l.len + 1)) (map (g.N.Number.on day) l.initial.table.items)
      → ((list : List Break) → IsTrue (is_walk l.rule l.len list) → l.layer ≡ layer_of l.rule list → IsReachOfAll l.rule l.len (map (g.N.Number.on day) l.sums) list (number_in (map (g.N.Number.on day) l.most) (end_of_all list)))
      → AreLayersBefore l.rule l.len (map (g.N.Number.on day) l.sums) (layer_number l.rule l.len l.layer * (l.len + 1) + l.offset) (map (g.N.Number.on day) l.table.items);
}
