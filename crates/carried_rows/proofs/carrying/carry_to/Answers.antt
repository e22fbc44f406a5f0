use Rattle.carried_rows.proofs.Common.{◌++◌, [], ◌∙◌, ap, sym, append_assoc, flat_map, flat_map_more, below, below_next, carried_on}
use Rattle.carried_rows.proofs.carrying.carry_to.Goals as goal

pub loop-day-preserved : goal.loop-day-preserved
loop-day-preserved c =
    let f = carried_on c.args.new.now c.args.rows.now c.args.before c.args.shift in
    c.in_ok-carry_on.ensures ∙ ap (λ xs. xs ++ f c.loop-day.day) c.loop-day.invariant ∙ append_assoc c.args.list.now.items (flat_map f (below c.loop-day.day)) (f c.loop-day.day)
    ∙ ap (λ xs. c.args.list.now.items ++ xs) (flat_map_more f [] (below c.loop-day.day) c.loop-day.day ∙ ap (flat_map f) (sym (below_next c.loop-day.day)))
