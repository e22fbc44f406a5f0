use Rattle.report_grafts.proofs.Common.{[], rota_of, pins_of_shift}
use Rattle.report_grafts.proofs.Pinned.{one_more}
use Rattle.report_grafts.proofs.pinning.pins.Goals as goal

pub loop-shift-preserved : goal.loop-shift-preserved
loop-shift-preserved c =
    one_more (pins_of_shift c.args.instance.now (rota_of c.args.rows.now)) [] c.loop-shift.list.items c.add_shift.new.list.items c.loop-shift.shift c.loop-shift.invariant c.in_ok-add_shift.ensures
