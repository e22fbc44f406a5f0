use Rattle.rota_table.proofs.Common.{◌≡◌, ◌++◌, map, string_bytes, flat_map, below, break_columns, first_columns}
use Rattle.rota_table.proofs.fields.rota_columns.Given as goal

abbrev pub invariant-loop-number : goal.invariant-loop-number
invariant-loop-number l = map string_bytes l.names.items ≡ first_columns ++ flat_map break_columns (below l.number)
