use Rattle.subtree_search.proofs.Common.{◌≡◌, ◌-◌, ◌≤◌, IsOwn, AreGreedySteps}
use Rattle.subtree_search.proofs.solving.solve_below.Given as goal

abbrev pub invariant-loop-node : goal.invariant-loop-node
invariant-loop-node l = record {
  steps : AreGreedySteps l.instance l.fn.base l.limit l.search;
  within : l.search.taken ≤ l.budget;
  buffers : l.buffers ≡ l.instance;
  own : IsOwn l.greedy.kept l.instance;
}

abbrev pub decreases-loop-node : goal.decreases-loop-node
decreases-loop-node l = l.budget - l.search.taken
