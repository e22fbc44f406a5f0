use Rattle.report_grafts.proofs.Common.{ap, ◌++◌, ◌∙◌, heads_on, rota_of, pins_on}
use Rattle.report_grafts.proofs.Pinned.{one_more}
use Rattle.report_grafts.proofs.pinning.add_shift.Goals as goal

pub loop-day-preserved : goal.loop-day-preserved
loop-day-preserved c =
    let s = c.args.shift in
    let day = c.loop-day.day in
    let before = c.loop-day.list.items in
    one_more (λ day. pins_on s day (heads_on (rota_of c.args.rows.now) s day)) c.args.list.now.items before c.add_pins.new.list.items day c.loop-day.invariant
    (c.in_ok-add_pins.ensures ∙ ap (λ n. before ++ pins_on s day n) c.heads_on-heads.ensures)
