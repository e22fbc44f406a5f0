use Rattle.plan_page.proofs.Common.{◌≡◌, ◌++◌, string_bytes, flat_map, below, slot_bar}
use Rattle.plan_page.proofs.chart.add_slot_bars.Given as goal

abbrev pub invariant-loop-n : goal.invariant-loop-n
invariant-loop-n l = string_bytes l.page ≡ string_bytes l.fn.page ++ flat_map (slot_bar l.instance l.attendance.duties l.most l.first l.layer) (below l.n)
