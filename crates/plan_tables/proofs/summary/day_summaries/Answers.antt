use Rattle.plan_tables.proofs.Common.{List, ◌∷◌, [], ◌++◌, map, sym, ap, ◌∙◌, below, rota_of, DaySummary, day_summary}
use Rattle.plan_tables.proofs.Steps.{map_below_more}
use Rattle.plan_tables.proofs.summary.day_summaries.Goals as goal

pub loop-day-preserved : goal.loop-day-preserved
loop-day-preserved c =
    let f = day_summary c.args.instance.now (rota_of c.args.rows.now) in
    c.in_ok-push.ensures.items
    ∙ ap (λ (ds : List DaySummary). ds ++ c.day_summary.result ∷ []) c.loop-day.invariant
    ∙ ap (λ (d : DaySummary). map f (below c.loop-day.day) ++ d ∷ []) c.day_summary.ensures
    ∙ sym (map_below_more f c.loop-day.day)
