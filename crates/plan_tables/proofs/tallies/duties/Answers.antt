use Rattle.plan_tables.proofs.Common.{◌≡◌, ◌+◌, ◌∙◌, length, take, ap, arith, length-append, length-replicate, duty_of, rota_of}
use Rattle.plan_tables.proofs.RowDuties.{row_at}
use Rattle.plan_tables.proofs.tallies.duties.Goals as goal

pub overflow_add-duties : goal.overflow_add-duties
overflow_add-duties c =
    let r = row_at c.args.instance.now c.as_slice-row-items.result.now c.args.rows.now c.loop-row.row-index c.row-item.result c.as_slice-row-items.ensures c.slots-valid.ensures.valid c.requires c.loop-row-test.true c.row-item.is in
    omega (arith, r.few, c.loop-row.invariant)

pub loop-row-preserved : goal.loop-row-preserved
loop-row-preserved c =
    let rows = c.args.rows.now in
    let k = c.loop-row.row-index in
    let x = c.row-item.result in
    let r = row_at c.args.instance.now c.as_slice-row-items.result.now rows k x c.as_slice-row-items.ensures c.slots-valid.ensures.valid c.requires c.loop-row-test.true c.row-item.is in
    let e : length (rota_of (take (k + 1) rows)) ≡ length (rota_of (take k rows)) + x.count =
    ap (λ ds. length ds) r.more ∙ length-append (rota_of (take k rows)) _ ∙ ap (λ n. length (rota_of (take k rows)) + n) (length-replicate x.count (duty_of x)) in
    omega (arith, c.loop-row.invariant)
