use Rattle.break_layers.proofs.Common.{◌≡◌, ◌≢◌, ℕ, ◌<◌, ◌≤◌, ◌+ℤ◌, map, FitsSigned, w64, sum_at, NOTHING, number_in}
use Rattle.break_layers.proofs.windows.add_sums.Given as goal

abbrev pub invariant-loop-k : goal.invariant-loop-k
invariant-loop-k g l = record {
  nothing : (day : ℕ) → day < g.N.Number.days → (j : ℕ) → j < l.k → number_in (map (g.N.Number.on day) l.initial.row) j ≡ NOTHING → number_in (map (g.N.Number.on day) l.row) j ≡ NOTHING;
  total : (day : ℕ) → day < g.N.Number.days → (j : ℕ) → j < l.k → number_in (map (g.N.Number.on day) l.initial.row) j ≢ NOTHING
      → FitsSigned w64 (number_in (map (g.N.Number.on day) l.initial.row) j +ℤ sum_at (map (g.N.Number.on day) l.sums) j)
      → number_in (map (g.N.Number.on day) l.row) j ≡ number_in (map (g.N.Number.on day) l.initial.row) j +ℤ sum_at (map (g.N.Number.on day) l.sums) j;
  left : (day : ℕ) → (j : ℕ) → l.k ≤ j → number_in (map (g.N.Number.on day) l.row) j ≡ number_in (map (g.N.Number.on day) l.initial.row) j;
}
