use Rattle.std.proofs.Common.{◌≡◌, ◌≤◌, ◌*◌, take}
use Rattle.plan_comparison.specs.Changes.{kept_on}
use Rattle.plan_comparison.proofs.comparing.kept_on.Given as goal

abbrev pub invariant-loop-row : goal.invariant-loop-row
invariant-loop-row l = record { kept : l.kept ≡ kept_on l.others (take l.row-index l.rows) l.day; few : l.kept ≤ 65535 * l.row-index }
