use Rattle.carried_rows.proofs.Common.{List, ◌+◌, ◌++◌, ◌∙◌, ap, drop, filter, sym, Row, fitted, goes_to}
use Rattle.carried_rows.proofs.Steps.{drop_item}
use Rattle.carried_rows.proofs.carrying.carry_on.Goals as goal

pub loop-row-preserved : goal.loop-row-preserved
loop-row-preserved c =
    let goes = goes_to c.args.new.now c.args.before c.args.shift c.args.day in
    let on = drop_item c.as_slice-row-items.result.now c.args.rows.now c.loop-row.row-index c.row-item.result c.as_slice-row-items.ensures c.loop-row-test.true c.row-item.is in
    c.in_ok-room.ensures (drop (c.loop-row.row-index + 1) c.args.rows.now)
    ∙ ap (λ (rs : List Row). c.loop-row.list.items ++ fitted c.args.shift c.loop-row.room (filter goes rs)) (sym on)
    ∙ c.loop-row.invariant
