use Rattle.report_nodes.proofs.Common.{◌≡◌, ◌++◌, take}
use Rattle.report_nodes.proofs.tree.with_copies.Given as goal

abbrev pub invariant-loop-node : goal.invariant-loop-node
invariant-loop-node l = l.nodes.items ≡ l.fn.nodes.items ++ take l.node-index l.more
