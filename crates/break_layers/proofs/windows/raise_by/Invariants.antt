use Rattle.break_layers.proofs.Common.{◌≡◌, ℕ, ◌+◌, ◌<◌, ◌≤◌, map, int_max, number_in}
use Rattle.break_layers.proofs.windows.raise_by.Given as goal

abbrev pub invariant-loop-k : goal.invariant-loop-k
invariant-loop-k g l = record {
  done : (day : ℕ) → day < g.N.Number.days → (j : ℕ) → j < l.k → number_in (map (g.N.Number.on day) l.row) j ≡ int_max (number_in (map (g.N.Number.on day) l.initial.row) j) (number_in (map (g.N.Number.on day) l.initial.row) (j + l.by));
  left : (day : ℕ) → (j : ℕ) → l.k ≤ j → number_in (map (g.N.Number.on day) l.row) j ≡ number_in (map (g.N.Number.on day) l.initial.row) j;
}
