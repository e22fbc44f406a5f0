use Rattle.break_layers.proofs.Common.{ℕ, ◌-◌, ◌<◌, ◌≤◌, map, number_in, IsMostIn}
use Rattle.break_layers.proofs.windows.raise_to_windows.Given as goal

abbrev pub invariant-loop-wide : goal.invariant-loop-wide
invariant-loop-wide g l = record {
  some : 1 ≤ l.wide;
  within : l.wide ≤ l.width;
  most : (day : ℕ) → day < g.N.Number.days → (k : ℕ) → IsMostIn (map (g.N.Number.on day) l.initial.row) k l.wide (number_in (map (g.N.Number.on day) l.row) k);
}

abbrev pub decreases-loop-wide : goal.decreases-loop-wide
decreases-loop-wide g l = l.width - l.wide
