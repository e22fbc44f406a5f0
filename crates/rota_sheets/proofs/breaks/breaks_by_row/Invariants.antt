use Rattle.rota_sheets.proofs.Common.{◌≡◌, take, flat_map, breaks_of_row}
use Rattle.rota_sheets.proofs.breaks.breaks_by_row.Given as goal

abbrev pub invariant-loop-row : goal.invariant-loop-row
invariant-loop-row l = l.taken.items ≡ flat_map (breaks_of_row l.instance) (take l.row-index l.rows)
