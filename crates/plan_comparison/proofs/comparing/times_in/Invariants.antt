use Rattle.std.proofs.Common.{◌≡◌, ◌≤◌, ◌*◌, take}
use Rattle.plan_comparison.specs.Changes.{times_in}
use Rattle.plan_comparison.proofs.comparing.times_in.Given as goal

abbrev pub invariant-loop-other : goal.invariant-loop-other
invariant-loop-other l = record { times : l.times ≡ times_in (take l.other-index l.rows) l.row; few : l.times ≤ 65535 * l.other-index }
