use Rattle.search_book.proofs.Common.{◌≡◌, ◌<◌, ℕ, false, option_map_or, is_node_and, is_open, hand}
use Rattle.search_book.proofs.listing.holds_open.Given as goal

abbrev pub invariant-loop-worker : goal.invariant-loop-worker
invariant-loop-worker l = (w : ℕ) → w < l.worker → option_map_or (λ k. is_node_and l.state.book k (is_open l.state.book)) (hand l.hands w) false ≡ false
