use Rattle.greedy.proofs.Common.{bound_at, Leads}
use Rattle.greedy.proofs.bounds.leading.Given as goal

abbrev pub invariant-loop-shift : goal.invariant-loop-shift
invariant-loop-shift l = Leads (bound_at l.bounds) l.shift l.best l.best_bound
