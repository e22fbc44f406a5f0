use Rattle.break_layers.proofs.Common.{◌≡◌, ◌-◌, ◌++◌, List, true, Break, is_live, spot_of, IsBestTail}
use Rattle.break_layers.proofs.lists.completed.Given as goal

abbrev pub invariant-loop-next : goal.invariant-loop-next
invariant-loop-next l = record {
  live : is_live l.rule l.len l.whole.items ≡ true;
  spot : l.at ≡ spot_of l.rule l.whole.items;
  leads : (mid : List Break) × (l.whole.items ≡ l.fn.list.items ++ mid) × ((tail : List Break) → IsBestTail l.rule l.len l.sums l.whole.items tail → IsBestTail l.rule l.len l.sums l.fn.list.items (mid ++ tail));
}

abbrev pub decreases-loop-next : goal.decreases-loop-next
decreases-loop-next l = l.len - l.at.offset
