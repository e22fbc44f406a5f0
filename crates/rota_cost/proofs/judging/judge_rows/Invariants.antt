use Rattle.rota_cost.proofs.Common.{◌≡◌, take, drop, fault_from, row_fault, IsRun}
use Rattle.rota_cost.proofs.judging.judge_rows.Given as goal

abbrev pub invariant-loop-i : goal.invariant-loop-i
invariant-loop-i l = record {
  rest : fault_from l.instance (take l.i l.list) (drop l.i l.list) ≡ row_fault l.instance l.rows;
  run : IsRun (take l.i l.list) l.run;
}
