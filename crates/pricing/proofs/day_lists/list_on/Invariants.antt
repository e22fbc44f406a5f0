use Rattle.pricing.proofs.Common.{◌++◌, [], List, Break, StandsAt, sums_on, IsBestTail}
use Rattle.pricing.proofs.day_lists.list_on.Given as goal

abbrev pub invariant-loop-edge : goal.invariant-loop-edge
invariant-loop-edge l = record {
  stands : StandsAt l.rests.rule.now l.rests.len l.rests.graph.now l.at l.list.items;
  leads : (tail : List Break) → IsBestTail l.rests.rule.now l.rests.len (sums_on l.day l.rests.sums.now) l.list.items tail → IsBestTail l.rests.rule.now l.rests.len (sums_on l.day l.rests.sums.now) [] (l.list.items ++ tail);
}

abbrev pub decreases-loop-edge : goal.decreases-loop-edge
decreases-loop-edge l = l.at
