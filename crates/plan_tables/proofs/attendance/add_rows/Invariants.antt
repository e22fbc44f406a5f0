use Rattle.plan_tables.proofs.Common.{◌≡◌, map, take, rota_of, unbroken}
use Rattle.plan_tables.proofs.attendance.add_rows.Given as goal

abbrev pub invariant-loop-row : goal.invariant-loop-row
invariant-loop-row l = record {
  working : l.working.instance ≡ l.instance;
  whole : l.whole.instance ≡ l.instance;
  duties : l.working.duties ≡ rota_of (take l.row-index l.rows);
  unbroken : l.whole.duties ≡ map unbroken (rota_of (take l.row-index l.rows));
}
