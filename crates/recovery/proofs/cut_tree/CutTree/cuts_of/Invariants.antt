use Rattle.recovery.proofs.Common.{◌≡◌, ◌+◌, ◌<◌, ◌≤◌, ◌++◌, length, reverse, cuts_at}
use Rattle.recovery.proofs.cut_tree.CutTree.cuts_of.Given as goal

abbrev pub invariant-loop-at : goal.invariant-loop-at
invariant-loop-at l = record {
  there : l.at < length l.self;
  few : l.at + length l.list.items ≤ l.node;
  cuts : cuts_at l.self l.at ++ reverse l.list.items ≡ cuts_at l.self l.node;
}

abbrev pub decreases-loop-at : goal.decreases-loop-at
decreases-loop-at l = l.at
