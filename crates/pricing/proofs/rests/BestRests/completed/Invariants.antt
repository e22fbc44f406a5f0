use Rattle.pricing.proofs.Common.{◌≡◌, ◌++◌, List, Break, StandsAt, IsBestTail}
use Rattle.pricing.proofs.rests.BestRests.completed.Given as goal

abbrev pub invariant-loop-edge : goal.invariant-loop-edge
invariant-loop-edge l = record {
  stands : StandsAt l.self.rule l.self.len l.self.nodes l.at l.whole.items;
  leads : (mid : List Break) × (l.whole.items ≡ l.fn.list.items ++ mid) × ((tail : List Break) → IsBestTail l.self.rule l.self.len l.self.sums l.whole.items tail → IsBestTail l.self.rule l.self.len l.self.sums l.fn.list.items (mid ++ tail));
}

abbrev pub decreases-loop-edge : goal.decreases-loop-edge
decreases-loop-edge l = l.at
