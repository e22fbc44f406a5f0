use Rattle.rota_sheets.proofs.Common.{◌≡◌, ◌≤◌, count_by, take, rota_of, starts_on}
use Rattle.rota_sheets.proofs.heads.duties_on.Given as goal

abbrev pub invariant-loop-row : goal.invariant-loop-row
invariant-loop-row l = record {
  duties : l.duties ≡ count_by (starts_on l.instance l.day) (rota_of (take l.row-index l.rows));
  few : l.duties ≤ 2000000;
}
