use Rattle.rota_sheets.proofs.Common.{◌*◌, ◌≤◌}
use Rattle.rota_sheets.proofs.heads_lines.all_duties.Given as goal

abbrev pub invariant-loop-day : goal.invariant-loop-day
invariant-loop-day l = l.duties ≤ l.day * 2000000
