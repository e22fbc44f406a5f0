use Rattle.head_splits.proofs.Common.{◌≡◌, None, [], flat_map, below, IsWalked, shift_duties}
use Rattle.head_splits.proofs.settling.walk_shifts.Given as goal

abbrev pub invariant-loop-shift : goal.invariant-loop-shift
invariant-loop-shift l = record {
  prefix : l.walk.place.prefix.items ≡ [];
  walked : IsWalked l.instance l.cuts (flat_map (shift_duties l.instance) (below l.shift)) None l.fn.walk.rows.items l.walk.rows.items;
}
