use Rattle.std.proofs.Common.{◌≡◌, ◌≤◌, ◌*◌, take}
use Rattle.plan_comparison.specs.Changes.{duties_on}
use Rattle.plan_comparison.proofs.comparing.duties_on.Given as goal

abbrev pub invariant-loop-row : goal.invariant-loop-row
invariant-loop-row l = record { duties : l.duties ≡ duties_on (take l.row-index l.rows) l.day; few : l.duties ≤ 65535 * l.row-index }
