use Rattle.plan_tables.proofs.Common.{◌≡◌, length, take, rota_of}
use Rattle.plan_tables.proofs.tallies.duties.Given as goal

abbrev pub invariant-loop-row : goal.invariant-loop-row
invariant-loop-row l = l.duties ≡ length (rota_of (take l.row-index l.rows))
