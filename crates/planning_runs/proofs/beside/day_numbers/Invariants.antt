use Rattle.planning_runs.proofs.Common.{◌≡◌, length}
use Rattle.planning_runs.proofs.beside.day_numbers.Given as goal

abbrev pub invariant-loop-day : goal.invariant-loop-day
invariant-loop-day l = length l.names.items ≡ l.day
