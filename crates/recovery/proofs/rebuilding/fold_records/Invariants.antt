use Rattle.recovery.proofs.Folds.{Folding}
use Rattle.recovery.proofs.rebuilding.fold_records.Given as goal

abbrev pub invariant-loop-outcome : goal.invariant-loop-outcome
invariant-loop-outcome l = Folding l.fn._width l.instance l._records l.from l.initial.state.history l.fn.outcomes.items l.yielded l.outcome-iterator.rest.items l.at l.state
