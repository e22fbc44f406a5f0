use Rattle.report_nodes.proofs.Common.{◌≡◌, ◌++◌, drop, open_from}
use Rattle.report_nodes.proofs.listing.open_of.Given as goal

abbrev pub invariant-loop-k : goal.invariant-loop-k
invariant-loop-k l = l.list.items ++ open_from l.cost l.k (drop l.k l.nodes) ≡ open_from l.cost 0 l.nodes
