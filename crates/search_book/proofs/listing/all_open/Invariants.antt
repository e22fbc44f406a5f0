use Rattle.search_book.proofs.Common.{◌+◌, ◌≤◌, ListsBelow}
use Rattle.search_book.proofs.listing.all_open.Given as goal

abbrev pub invariant-loop-node : goal.invariant-loop-node
invariant-loop-node l = ListsBelow l.state.book l.node l.nodes.entries × (l.count ≤ l.nodes.spare + l.node)
