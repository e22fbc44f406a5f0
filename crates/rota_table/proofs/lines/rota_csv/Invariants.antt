use Rattle.rota_table.proofs.Common.{◌≡◌, ◌++◌, map, take, flat_map, default_writer, row_text, rota_columns, most_breaks, row_records}
use Rattle.rota_table.proofs.lines.rota_csv.Given as goal

abbrev pub invariant-loop-row : goal.invariant-loop-row
invariant-loop-row l =
    l.records ≡ row_text default_writer (rota_columns (most_breaks l.rows)) ++ flat_map (row_records l.instance l.names (most_breaks l.rows)) (map (λ r. r.now) (take l.row-index l.row-items))
