use Rattle.rota_cost.proofs.Seen.{IsSeen}
use Rattle.rota_cost.proofs.recounting.shifts_used.Given as goal

abbrev pub invariant-loop-row : goal.invariant-loop-row
invariant-loop-row l = IsSeen l.instance l.rows l.row-index l.seen l.used
