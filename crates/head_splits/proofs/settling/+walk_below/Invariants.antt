use Rattle.head_splits.proofs.Common.{◌≡◌, ◌-◌, None, take, ◌++◌, [], ◌∷◌, flat_map, WalkWay, IsWalked, duties_below}
use Rattle.head_splits.proofs.settling.+walk_below.Given as goal

abbrev pub decreases-walk_below : goal.decreases-walk_below
decreases-walk_below l = l.lists.now.len - l.at.spot.offset

abbrev pub invariant-loop-way : goal.invariant-loop-way
invariant-loop-way l = record {
  shift : l.walk.place.shift ≡ l.fn.walk.place.shift;
  day : l.walk.place.day ≡ l.fn.walk.place.day;
  prefix : l.walk.place.prefix.items ≡ l.fn.walk.place.prefix.items;
  walked : IsWalked l.instance l.cuts (flat_map (λ (w : WalkWay). duties_below l.instance l.fn.walk.place.shift l.fn.walk.place.day (l.fn.walk.place.prefix.items ++ w.stop ∷ [])) (take l.way-index l.ways)) None l.fn.walk.rows.items l.walk.rows.items;
}
