use Rattle.break_layers.proofs.Common.{◌≡◌, ℕ, ◌<◌, map, NOTHING, number_in}
use Rattle.break_layers.proofs.windows.clear.Given as goal

abbrev pub invariant-loop-k : goal.invariant-loop-k
invariant-loop-k g l = record { done : (day : ℕ) → day < g.N.Number.days → (j : ℕ) → j < l.k → number_in (map (g.N.Number.on day) l.row) j ≡ NOTHING }
