use Rattle.report_grafts.proofs.Common.{◌≡◌, [], ◌++◌, flat_map, below, rota_of, pins_of_shift}
use Rattle.report_grafts.proofs.pinning.pins.Given as goal

abbrev pub invariant-loop-shift : goal.invariant-loop-shift
invariant-loop-shift l = l.list.items ≡ [] ++ flat_map (pins_of_shift l.instance (rota_of l.rows)) (below l.shift)
