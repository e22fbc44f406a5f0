use Rattle.rota_sheets.proofs.Common.{◌≡◌, length}
use Rattle.rota_sheets.proofs.heads_lines.day_columns.Given as goal

abbrev pub invariant-loop-day : goal.invariant-loop-day
invariant-loop-day l = length l.columns.items ≡ l.day
