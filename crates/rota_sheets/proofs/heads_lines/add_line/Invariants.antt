use Rattle.rota_sheets.proofs.Common.{◌*◌, ◌≤◌}
use Rattle.rota_sheets.proofs.heads_lines.add_line.Given as goal

abbrev pub invariant-loop-day : goal.invariant-loop-day
invariant-loop-day l = l.sum ≤ l.day * 2000000
