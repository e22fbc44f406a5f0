use Rattle.break_graph.proofs.Common.{◌≡◌, ◌++◌, ◌<◌, ℕ, List, Some, length, slice_get, Break, Rule, legal_lists, IsGraph, StandsAt}
use Rattle.break_graph.proofs.Graph.least.Given as goal

abbrev pub invariant-loop-edge : goal.invariant-loop-edge
invariant-loop-edge l = record {
  within : l.at < length l.self;
  stands : (rule : Rule) (len : ℕ) → IsGraph rule len l.self → StandsAt rule len l.self l.at l.list.items;
  leads : (rule : Rule) (len : ℕ) → IsGraph rule len l.self → (tail : List Break) × (slice_get (legal_lists rule len) 0 ≡ Some (l.list.items ++ tail));
}

abbrev pub decreases-loop-edge : goal.decreases-loop-edge
decreases-loop-edge l = l.at
