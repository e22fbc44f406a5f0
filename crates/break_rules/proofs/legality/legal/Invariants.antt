use Rattle.break_rules.proofs.Common.{◌≡◌, ◌≤◌, take, drop, sum_by, total_of, is_walk_from, end_of_all}
use Rattle.break_rules.proofs.legality.legal.Given as goal

abbrev pub invariant-loop-b : goal.invariant-loop-b
invariant-loop-b l = record {
  walk : is_walk_from l.rule l.len l.offset l.used (drop l.b-index l.list) ≡ is_walk_from l.rule l.len 0 0 l.list;
  offset : l.offset ≡ end_of_all (take l.b-index l.list);
  used : l.used ≡ sum_by (λ b. b.len) (take l.b-index l.list);
  within : l.used ≤ l.total;
  total : l.total ≡ total_of l.rule l.len;
}
