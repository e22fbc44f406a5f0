use Rattle.carried_rows.proofs.Common.{◌≡◌, flat_map, below, carried_of}
use Rattle.carried_rows.proofs.carrying.carried_rows.Given as goal

abbrev pub invariant-loop-shift : goal.invariant-loop-shift
invariant-loop-shift l = l.list.items ≡ flat_map (carried_of l.old l.new l.rows) (below l.shift)
