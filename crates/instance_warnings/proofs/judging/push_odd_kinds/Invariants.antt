use Rattle.instance_warnings.proofs.Common.{◌≡◌, ◌++◌, drop, enumerate_from, flat_map, odd_kind}
use Rattle.instance_warnings.proofs.judging.push_odd_kinds.Given as goal

abbrev pub invariant-loop-k : goal.invariant-loop-k
invariant-loop-k l = l.list.items ++ flat_map (odd_kind l.instance l.most) (enumerate_from l.k (drop l.k l.kinds)) ≡ l.fn.list.items ++ flat_map (odd_kind l.instance l.most) (enumerate_from 0 l.kinds)
