use Rattle.rota_sheets.proofs.Common.{◌≡◌, ◌++◌}
use Rattle.rota_sheets.proofs.BreaksMore.{first_breaks}
use Rattle.rota_sheets.proofs.breaks.add_row.Given as goal

abbrev pub invariant-loop-b : goal.invariant-loop-b
invariant-loop-b l = l.taken.items ≡ l.fn.taken.items ++ first_breaks l.instance l.row l.b-index
