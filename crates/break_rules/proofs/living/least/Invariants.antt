use Rattle.break_rules.proofs.Common.{◌≡◌, ◌-◌, ◌++◌, List, true, Some, slice_get, Break, legal_lists, spot_of, is_walk}
use Rattle.break_rules.proofs.living.least.Given as goal

abbrev pub invariant-loop-next : goal.invariant-loop-next
invariant-loop-next l = record {
  walk : is_walk l.rule l.len l.list.items ≡ true;
  spot : l.spot ≡ spot_of l.rule l.list.items;
  leads : (tail : List Break) × (slice_get (legal_lists l.rule l.len) 0 ≡ Some (l.list.items ++ tail));
}

abbrev pub decreases-loop-next : goal.decreases-loop-next
decreases-loop-next l = l.len - l.spot.offset
