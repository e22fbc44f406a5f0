use Rattle.search_core.proofs.Common.{◌≡◌, ◌+◌, ◌<◌, ◌≤◌, ◌++◌, length, reverse, cuts_in}
use Rattle.search_core.proofs.state.State.cuts_of.Given as goal

abbrev pub invariant-loop-at : goal.invariant-loop-at
invariant-loop-at l = record {
  there : l.at < length l.self.book.nodes;
  few : l.at + length l.list.items ≤ l.node;
  cuts : cuts_in l.self.book.nodes l.at ++ reverse l.list.items ≡ cuts_in l.self.book.nodes l.node;
}

abbrev pub decreases-loop-at : goal.decreases-loop-at
decreases-loop-at l = l.at
