use Rattle.certificate.proofs.Common.{◌≡◌, ◌++◌, take, string_bytes, map, All, row_line, lines_text, FitsRow}
use Rattle.certificate.proofs.writing.add_rows.Given as goal

abbrev pub invariant-loop-row : goal.invariant-loop-row
invariant-loop-row l = record {
  added : string_bytes l.text ≡ string_bytes l.fn.text ++ lines_text (map row_line (take l.row-index l.rows));
  fits : All FitsRow (take l.row-index l.rows);
}
