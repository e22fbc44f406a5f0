use Rattle.head_splits.proofs.Common.{◌≡◌, None, [], flat_map, below, IsWalked, duties_below}
use Rattle.head_splits.proofs.settling.walk_days.Given as goal

abbrev pub invariant-loop-day : goal.invariant-loop-day
invariant-loop-day l = record {
  shift : l.walk.place.shift ≡ l.fn.walk.place.shift;
  prefix : l.walk.place.prefix.items ≡ [];
  walked : IsWalked l.instance l.cuts (flat_map (λ day. duties_below l.instance l.fn.walk.place.shift day []) (below l.day)) None l.fn.walk.rows.items l.walk.rows.items;
}
