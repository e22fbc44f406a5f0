use Rattle.break_layers.proofs.Common.{◌≡◌, ℕ, ◌+◌, ◌<◌, ◌≤◌, map, int_max, number_in}
use Rattle.break_layers.proofs.windows.raise_between.Given as goal

abbrev pub invariant-loop-k : goal.invariant-loop-k
invariant-loop-k g l = record {
  far : (n : ℕ) → l.fn.from ≤ n → l.fn.to ≤ n → l.k ≤ n;
  before : (day : ℕ) (j : ℕ) → j < l.fn.from → number_in (map (g.N.Number.on day) l.row) j ≡ number_in (map (g.N.Number.on day) l.initial.row) j;
  done : (day : ℕ) → day < g.N.Number.days → (j : ℕ) → j < l.k → l.fn.from ≤ j → number_in (map (g.N.Number.on day) l.row) j ≡ int_max (number_in (map (g.N.Number.on day) l.initial.row) j) (number_in (map (g.N.Number.on day) l.table) (l.behind + j));
  left : (day : ℕ) (j : ℕ) → l.k ≤ j → number_in (map (g.N.Number.on day) l.row) j ≡ number_in (map (g.N.Number.on day) l.initial.row) j;
}
