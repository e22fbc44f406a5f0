use Rattle.break_rules.proofs.Common.{◌≡◌, ◌<◌, true, take, total_of, spot_of, is_walk}
use Rattle.break_rules.proofs.living.spot_behind.Given as goal

abbrev pub invariant-loop-next : goal.invariant-loop-next
invariant-loop-next l = record {
  walk : is_walk l.rule l.len (take l.next-index l.list) ≡ true;
  spot : l.spot ≡ spot_of l.rule (take l.next-index l.list);
  used : l.spot.used < 65536;
  total : l.total ≡ total_of l.rule l.len;
}
