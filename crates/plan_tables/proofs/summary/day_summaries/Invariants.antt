use Rattle.plan_tables.proofs.Common.{◌≡◌, map, below, rota_of, day_summary}
use Rattle.plan_tables.proofs.summary.day_summaries.Given as goal

abbrev pub invariant-loop-day : goal.invariant-loop-day
invariant-loop-day l = l.days.items ≡ map (day_summary l.instance (rota_of l.rows)) (below l.day)
