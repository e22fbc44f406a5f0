use Rattle.break_layers.proofs.Common.{◌≡◌, ◌+◌, ◌*◌, ◌<◌, ◌≤◌, ℕ, ℤ, List, map, AreSums, number_in, AreLayersBefore, IsRaised, layer_number}
use Rattle.break_layers.proofs.reaching.raise_by_size.Given as goal

abbrev pub invariant-loop-start : goal.invariant-loop-start
invariant-loop-start g l = record {
  early : (day : ℕ) → (k : ℕ) → k < l.rule.lead → number_in (map (g.N.Number.on day) l.row) k ≡ number_in (map (g.N.Number.on day) l.initial.row) k;
  done : (day : ℕ) (sums : List ℤ) → day < g.N.Number.days → AreSums l.len sums → AreLayersBefore l.rule l.len sums (layer_number l.rule l.len l.layer * (l.len + 1)) (map (g.N.Number.on day) l.table)
      → (k : ℕ) → k < l.start → l.rule.lead ≤ k → IsRaised l.rule l.len sums l.layer (record { start = k; len = l.size }) (number_in (map (g.N.Number.on day) l.initial.row) k) (number_in (map (g.N.Number.on day) l.row) k);
  left : (day : ℕ) → (k : ℕ) → l.start ≤ k → number_in (map (g.N.Number.on day) l.row) k ≡ number_in (map (g.N.Number.on day) l.initial.row) k;
}
