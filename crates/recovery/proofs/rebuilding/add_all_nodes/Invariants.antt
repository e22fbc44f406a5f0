use Rattle.recovery.proofs.Common.{◌≡◌, fold, take, nodes_after, all_posts}
use Rattle.recovery.proofs.rebuilding.add_all_nodes.Given as goal

abbrev pub invariant-loop-outcome : goal.invariant-loop-outcome
invariant-loop-outcome l = l.tree ≡ fold nodes_after l.initial.tree (all_posts (take l.outcome-index l.outcomes))
