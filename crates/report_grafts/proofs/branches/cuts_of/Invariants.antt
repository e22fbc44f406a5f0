use Rattle.report_grafts.proofs.Common.{◌≡◌, ◌≤◌, ◌*◌, ◌++◌, [], List, length, reverse, Node, cuts_at, MakeNodes}
use Rattle.report_grafts.proofs.branches.cuts_of.Given as goal

abbrev pub invariant-loop-at : goal.invariant-loop-at
invariant-loop-at l = record {
  there : l.at ≤ 2 * length l.branches;
  cuts : (nodes : List Node) → MakeNodes [] l.branches nodes → cuts_at nodes l.at ++ reverse l.list.items ≡ cuts_at nodes l.node;
}

abbrev pub decreases-loop-at : goal.decreases-loop-at
decreases-loop-at l = l.at
