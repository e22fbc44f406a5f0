use Rattle.plan_page.proofs.Common.{◌≡◌, ◌++◌, string_bytes, flat_map, below, need_step}
use Rattle.plan_page.proofs.chart.add_need_steps.Given as goal

abbrev pub invariant-loop-n : goal.invariant-loop-n
invariant-loop-n l = string_bytes l.page ≡ string_bytes l.fn.page ++ flat_map (need_step l.instance l.most l.first l.edge) (below l.n)
