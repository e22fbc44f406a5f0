use Rattle.instance_tables.proofs.Common.{◌≡◌, ◌++◌, flat_map, default_writer, row_text, below, need_columns, need_fields}
use Rattle.instance_tables.proofs.export.need_table.Given as goal

abbrev pub invariant-loop-t : goal.invariant-loop-t
invariant-loop-t l = l.records ≡ row_text default_writer need_columns ++ flat_map (λ t. row_text default_writer (need_fields l.instance t)) (below l.t)
