use Rattle.rota_writer.proofs.Common.{◌≡◌, take, string_bytes, table_text}
use Rattle.rota_writer.proofs.table_lines.table.Given as goal

abbrev pub invariant-loop-row : goal.invariant-loop-row
invariant-loop-row l = string_bytes l.text ≡ table_text l.instance (take l.row-index l.rows)
