use Rattle.break_layers.proofs.Common.{◌≡◌, ◌+◌, ◌<◌, ℕ, length, map, number_in}
use Rattle.break_layers.proofs.layers.put_nothing.Given as goal

abbrev pub invariant-loop : goal.invariant-loop
invariant-loop g l = record {
  many : length l.table.items ≡ length l.initial.table.items + l.counter;
  kept : (day : ℕ) (k : ℕ) → k < length l.initial.table.items → number_in (map (g.N.Number.on day) l.table.items) k ≡ number_in (map (g.N.Number.on day) l.initial.table.items) k;
}
