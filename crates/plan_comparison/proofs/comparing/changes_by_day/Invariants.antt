use Rattle.std.proofs.Common.{◌≡◌, map}
use Rattle.shift_instance.specs.Problem.{below}
use Rattle.plan_comparison.specs.Changes.{day_changes}
use Rattle.plan_comparison.proofs.comparing.changes_by_day.Given as goal

abbrev pub invariant-loop-day : goal.invariant-loop-day
invariant-loop-day l = l.list.items ≡ map (day_changes l.carried l.before l.after) (below l.day)
