use Rattle.plan_tables.proofs.Common.{◌++◌, ◌∙◌, length, map, replicate, take, refl, sym, ap, arith, length-map, duty_of, rota_of, unbroken}
use Rattle.plan_tables.proofs.RowDuties.{row_at, unbroken_more}
use Rattle.plan_tables.proofs.attendance.add_rows.Goals as goal

pub add_row-requires-clause-shift : goal.add_row-requires-clause-shift
add_row-requires-clause-shift c = (row_at c.args.instance.now c.args.rows.now c.args.rows.now c.loop-row.row-index c.row-item.result refl c.slots-valid.ensures.valid c.requires.legal c.loop-row-test.true c.row-item.is).shift

pub add_row-requires-clause-day : goal.add_row-requires-clause-day
add_row-requires-clause-day c = (row_at c.args.instance.now c.args.rows.now c.args.rows.now c.loop-row.row-index c.row-item.result refl c.slots-valid.ensures.valid c.requires.legal c.loop-row-test.true c.row-item.is).day

pub add_row-requires-clause-room : goal.add_row-requires-clause-room
add_row-requires-clause-room c =
    let r = row_at c.args.instance.now c.args.rows.now c.args.rows.now c.loop-row.row-index c.row-item.result refl c.slots-valid.ensures.valid c.requires.legal c.loop-row-test.true c.row-item.is in
    omega (arith, r.few, ap (λ ds. length ds) c.loop-row.invariant.duties)

pub add_row-requires-clause-room_unbroken : goal.add_row-requires-clause-room_unbroken
add_row-requires-clause-room_unbroken c =
    let r = row_at c.args.instance.now c.args.rows.now c.args.rows.now c.loop-row.row-index c.row-item.result refl c.slots-valid.ensures.valid c.requires.legal c.loop-row-test.true c.row-item.is in
    omega (arith, r.few, ap (λ ds. length ds) c.loop-row.invariant.unbroken ∙ length-map (rota_of (take c.loop-row.row-index c.args.rows.now)) unbroken)

pub loop-row-preserved : goal.loop-row-preserved
loop-row-preserved c =
    let rows = c.args.rows.now in
    let k = c.loop-row.row-index in
    let x = c.row-item.result in
    let r = row_at c.args.instance.now rows rows k x refl c.slots-valid.ensures.valid c.requires.legal c.loop-row-test.true c.row-item.is in
    record {
      working = c.in_ok-add_row.ensures.working;
      whole = c.in_ok-add_row.ensures.whole;
      duties = c.in_ok-add_row.ensures.duties ∙ ap (λ ds. ds ++ replicate x.count (duty_of x)) c.loop-row.invariant.duties ∙ sym r.more;
      unbroken =
          c.in_ok-add_row.ensures.unbroken ∙ ap (λ ds. ds ++ replicate x.count (unbroken (duty_of x))) c.loop-row.invariant.unbroken
          ∙ sym (unbroken_more (rota_of (take k rows)) x.count (duty_of x)) ∙ ap (λ ds. map unbroken ds) (sym r.more);
    }
