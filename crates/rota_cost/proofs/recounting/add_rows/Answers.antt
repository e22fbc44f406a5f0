use Rattle.rota_cost.proofs.Common.{◌≡◌, ◌≤◌, arith, get_or, cover, rota_of}
use Rattle.rota_cost.proofs.Counting.{row_at, cover_end, cover_few}
use Rattle.rota_cost.proofs.recounting.add_rows.Goals as goal

pub add_row-requires-clause-shift : goal.add_row-requires-clause-shift
add_row-requires-clause-shift c =
    (row_at c.args.instance.now c.args.rows.now c.as_slice-row-items.result.now c.loop-row.row-index c.row-item.result c.requires.valid c.requires.legal c.as_slice-row-items.ensures c.loop-row-test.true c.row-item.is).shift

pub add_row-requires-clause-room : goal.add_row-requires-clause-room
add_row-requires-clause-room c =
    let r = row_at c.args.instance.now c.args.rows.now c.as_slice-row-items.result.now c.loop-row.row-index c.row-item.result c.requires.valid c.requires.legal c.as_slice-row-items.ensures c.loop-row-test.true c.row-item.is in
    λ t small. omega (arith, r.few t, c.loop-row.invariant t small)

pub loop-row-preserved : goal.loop-row-preserved
loop-row-preserved c =
    let r = row_at c.args.instance.now c.args.rows.now c.as_slice-row-items.result.now c.loop-row.row-index c.row-item.result c.requires.valid c.requires.legal c.as_slice-row-items.ensures c.loop-row-test.true c.row-item.is in
    λ t small. omega (arith, r.more t, c.loop-row.invariant t small, c.add_row.ensures t small)

pub returns-clause-cover : goal.returns-clause-cover
returns-clause-cover c =
    λ t small. cover_end c.args.instance.now c.args.rows.now c.as_slice-row-items.result.now t c.loop-row.row-index _ c.as_slice-row-items.ensures c.loop-row-test.false (c.loop-row.invariant t small)

pub returns-clause-few : goal.returns-clause-few
returns-clause-few c =
    λ t small.
    let e : get_or c.loop-row.counts t 0 ≡ cover c.args.instance.now (rota_of c.args.rows.now) t = cover_end c.args.instance.now c.args.rows.now c.as_slice-row-items.result.now t c.loop-row.row-index _ c.as_slice-row-items.ensures c.loop-row-test.false (c.loop-row.invariant t small) in
    let few : cover c.args.instance.now (rota_of c.args.rows.now) t ≤ 204800 = cover_few c.args.instance.now c.args.rows.now t c.requires.valid c.requires.legal in
    omega arith
