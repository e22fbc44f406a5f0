use Rattle.search_core.proofs.Common.{◌≡◌, cond, fold, min, take, NodeState}
use Rattle.search_core.proofs.outline.least_floor.Given as goal

abbrev pub invariant-loop-node : goal.invariant-loop-node
invariant-loop-node l = l.floor ≡ fold (λ f (n : NodeState). cond n.split f (min f n.floor)) l.cost (take l.node-index l.nodes)
