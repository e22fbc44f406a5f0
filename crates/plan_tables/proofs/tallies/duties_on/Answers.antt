use Rattle.plan_tables.proofs.Common.{◌≤◌, arith, count_by, length, take, count_by-le-length, rota_of, starts_on}
use Rattle.plan_tables.proofs.RowDuties.{row_at}
use Rattle.plan_tables.proofs.tallies.duties_on.Goals as goal

pub first_slot-requires : goal.first_slot-requires
first_slot-requires c = (row_at c.args.instance.now c.as_slice-row-items.result.now c.args.rows.now c.loop-row.row-index c.row-item.result c.as_slice-row-items.ensures c.slots-valid.ensures.valid c.requires c.loop-row-test.true c.row-item.is).shift

pub overflow_add-duties : goal.overflow_add-duties
overflow_add-duties c =
    let rota = rota_of (take c.loop-row.row-index c.args.rows.now) in
    let r = row_at c.args.instance.now c.as_slice-row-items.result.now c.args.rows.now c.loop-row.row-index c.row-item.result c.as_slice-row-items.ensures c.slots-valid.ensures.valid c.requires c.loop-row-test.true c.row-item.is in
    let few : count_by (starts_on c.args.instance.now c.args.day) rota ≤ length rota = count_by-le-length (starts_on c.args.instance.now c.args.day) rota in
    omega (arith, r.few, c.loop-row.invariant)
