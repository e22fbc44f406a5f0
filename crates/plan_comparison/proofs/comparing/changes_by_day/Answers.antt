use Rattle.std.proofs.Common.{List, ◌∷◌, [], ◌++◌, map, sym, ap, ◌∙◌}
use Rattle.shift_instance.specs.Problem.{below}
use Rattle.plan_comparison.specs.declared.comparing.DayChanges.{DayChanges}
use Rattle.plan_comparison.specs.Changes.{day_changes}
use Rattle.plan_comparison.proofs.Steps.{map_below_more}
use Rattle.plan_comparison.proofs.comparing.changes_by_day.Goals as goal

pub loop-day-preserved : goal.loop-day-preserved
loop-day-preserved c =
    let f = day_changes c.args.carried.now c.args.before.now c.args.after.now in
    c.in_ok-push.ensures.items
    ∙ ap (λ (ds : List DayChanges). ds ++ c.day_changes.result ∷ []) c.loop-day.invariant
    ∙ ap (λ (d : DayChanges). map f (below c.loop-day.day) ++ d ∷ []) c.day_changes.ensures
    ∙ sym (map_below_more f c.loop-day.day)
