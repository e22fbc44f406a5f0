use Rattle.cert_check.proofs.Common.{◌≡◌, cond, fold, min, take, TOP, KeptNode}
use Rattle.cert_check.proofs.tree.Tree.least_floor.Given as goal

abbrev pub invariant-loop-node : goal.invariant-loop-node
invariant-loop-node l = l.least ≡ fold (λ f (n : KeptNode). cond n.split f (min f n.floor)) TOP (take l.node-index l.node-items)
