use Rattle.search_core.proofs.Common.{◌+◌, ◌<◌, ◌≤◌, length}
use Rattle.search_core.proofs.state.State.last_prices.Given as goal

abbrev pub invariant-loop-at : goal.invariant-loop-at
invariant-loop-at l = record {
  there : l.at < length l.self.book.nodes;
  few : l.at + l.below ≤ l.node;
}

abbrev pub decreases-loop-at : goal.decreases-loop-at
decreases-loop-at l = l.at
