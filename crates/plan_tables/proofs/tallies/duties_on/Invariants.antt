use Rattle.plan_tables.proofs.Common.{◌≡◌, count_by, take, rota_of, starts_on}
use Rattle.plan_tables.proofs.tallies.duties_on.Given as goal

abbrev pub invariant-loop-row : goal.invariant-loop-row
invariant-loop-row l = l.duties ≡ count_by (starts_on l.instance l.day) (rota_of (take l.row-index l.rows))
