use Rattle.report_grafts.proofs.Common.{◌≡◌, ◌++◌, flat_map, below, heads_on, rota_of, pins_on}
use Rattle.report_grafts.proofs.pinning.add_shift.Given as goal

abbrev pub invariant-loop-day : goal.invariant-loop-day
invariant-loop-day l = l.list.items ≡ l.fn.list.items ++ flat_map (λ day. pins_on l.shift day (heads_on (rota_of l.rows) l.shift day)) (below l.day)
