use Rattle.subtree_search.proofs.Common.{◌≡◌, ◌-◌, ◌≤◌, AreSteps}
use Rattle.subtree_search.proofs.solving.solve_below_by.Given as goal

abbrev pub invariant-loop-node : goal.invariant-loop-node
invariant-loop-node g l = record {
  steps : AreSteps l.instance l.fn.base l.limit l.search;
  within : l.search.taken ≤ l.budget;
  buffers : l.buffers ≡ l.instance;
}

abbrev pub decreases-loop-node : goal.decreases-loop-node
decreases-loop-node g l = l.budget - l.search.taken
