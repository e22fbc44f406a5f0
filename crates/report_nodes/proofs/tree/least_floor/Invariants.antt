use Rattle.report_nodes.proofs.Common.{◌≡◌, cond, fold, min, take, Node}
use Rattle.report_nodes.proofs.tree.least_floor.Given as goal

abbrev pub invariant-loop-node : goal.invariant-loop-node
invariant-loop-node l = l.floor ≡ fold (λ f (n : Node). cond n.split f (min f n.floor)) l.cost (take l.node-index l.nodes)
