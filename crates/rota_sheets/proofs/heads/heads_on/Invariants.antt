use Rattle.rota_sheets.proofs.Common.{◌≡◌, ◌≤◌, count_by, take, rota_of, starts_with}
use Rattle.rota_sheets.proofs.heads.heads_on.Given as goal

abbrev pub invariant-loop-row : goal.invariant-loop-row
invariant-loop-row l = record {
  heads : l.heads ≡ count_by (starts_with l.instance l.shift l.day) (rota_of (take l.row-index l.rows));
  few : l.heads ≤ 2000000;
}
