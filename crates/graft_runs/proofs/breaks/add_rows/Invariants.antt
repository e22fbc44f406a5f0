use Rattle.graft_runs.proofs.Common.{◌≡◌, ◌++◌, take, string_bytes, map, row_line, lines_text}
use Rattle.graft_runs.proofs.breaks.add_rows.Given as goal

abbrev pub invariant-loop-row : goal.invariant-loop-row
invariant-loop-row l = string_bytes l.text ≡ string_bytes l.fn.text ++ lines_text (map row_line (take l.row-index l.rows))
