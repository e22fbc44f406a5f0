use Rattle.rota_sheets.proofs.Common.{row_at}
use Rattle.rota_sheets.proofs.breaks.breaks_by_row.Goals as goal

pub add_row-requires : goal.add_row-requires
add_row-requires c = (row_at c.args.instance.now c.as_slice-row-items.result.now c.args.rows.now c.loop-row.row-index c.row-item.result c.as_slice-row-items.ensures c.slots-valid.ensures.valid c.requires c.loop-row-test.true c.row-item.is).shift
