use Rattle.break_layers.proofs.Common.{◌≡◌, ◌+◌, ◌*◌, ◌<◌, ◌≤◌, ℕ, List, IsTrue, map, Break, is_walk, AreSums, number_in, layer_of, layer_number, AreLayersBefore, IsInWindow, IsBehindAt}
use Rattle.break_layers.proofs.reaching.set_reaches.Given as goal

abbrev pub invariant-loop-size : goal.invariant-loop-size
invariant-loop-size g l = record {
  each : (day : ℕ) → day < g.N.Number.days → AreSums l.len (map (g.N.Number.on day) l.sums)
      → AreLayersBefore l.rule l.len (map (g.N.Number.on day) l.sums) (layer_number l.rule l.len l.layer * (l.len + 1)) (map (g.N.Number.on day) l.table)
      → (list : List Break) (start : ℕ) → start ≤ l.len → IsTrue (is_walk l.rule l.len list) → l.layer ≡ layer_of l.rule list → IsInWindow l.rule list (record { start = start; len = l.fn.sizes.from })
      → IsBehindAt l.rule l.len (map (g.N.Number.on day) l.sums) list start l.fn.sizes.from l.size (number_in (map (g.N.Number.on day) l.row) start);
}
