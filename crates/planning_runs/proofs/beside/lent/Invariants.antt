use Rattle.planning_runs.proofs.Common.{◌≡◌, length}
use Rattle.planning_runs.proofs.beside.lent.Given as goal

abbrev pub invariant-loop-name : goal.invariant-loop-name
invariant-loop-name l = length l.texts.items ≡ l.name-index
