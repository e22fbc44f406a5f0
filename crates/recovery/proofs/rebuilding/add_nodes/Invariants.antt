use Rattle.recovery.proofs.Common.{◌≡◌, fold, take, nodes_after}
use Rattle.recovery.proofs.rebuilding.add_nodes.Given as goal

abbrev pub invariant-loop-post : goal.invariant-loop-post
invariant-loop-post l = l.tree ≡ fold nodes_after l.initial.tree (take l.post-index l.posts)
