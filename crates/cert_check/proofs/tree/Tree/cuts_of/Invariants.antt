use Rattle.cert_check.proofs.Common.{◌≡◌, ◌+◌, ◌<◌, ◌≤◌, ◌++◌, length, reverse, cuts_at}
use Rattle.cert_check.proofs.tree.Tree.cuts_of.Given as goal

abbrev pub invariant-loop-list : goal.invariant-loop-list
invariant-loop-list l = record {
  there : l.at < length l.self;
  few : l.at + length l.list.items ≤ l.node;
  cuts : cuts_at l.self l.at ++ reverse l.list.items ≡ cuts_at l.self l.node;
}

abbrev pub decreases-loop-list : goal.decreases-loop-list
decreases-loop-list l = l.at
