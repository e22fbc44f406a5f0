use Rattle.plan_tables.proofs.Common.{◌≡◌, ◌++◌, map, take, string_bytes, flat_map, duties_head, row_line}
use Rattle.plan_tables.proofs.duty_lines.duties_table.Given as goal

abbrev pub invariant-loop-row : goal.invariant-loop-row
invariant-loop-row l = string_bytes l.text ≡ duties_head l.instance ++ flat_map (row_line l.instance) (map (λ r. r.now) (take l.row-index l.row-items))
