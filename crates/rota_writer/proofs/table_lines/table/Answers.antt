use Rattle.rota_writer.proofs.Common.{◌<◌, List, length, get_or, subst, sym, ap, ◌∙◌, Row, shift_list}
use Rattle.rota_cost.proofs.Counting.{row_duty}
use Rattle.rota_writer.proofs.table_lines.table.Goals as goal

pub add_row-requires : goal.add_row-requires
add_row-requires c =
    let i = c.args.instance.now in
    let rows = c.args.rows.now in
    let k = c.loop-row.row-index in
    let r = c.row-item.result in
    let small : k < length rows = subst (λ (xs : List Row). k < length xs) c.as_slice-row-items.ensures c.loop-row-test.true in
    subst (λ (x : Row). x.shift < length (shift_list i)) (sym (c.row-item.is ∙ ap (λ (xs : List Row). get_or xs k r) c.as_slice-row-items.ensures)) (row_duty i rows c.requires k r small).shift
