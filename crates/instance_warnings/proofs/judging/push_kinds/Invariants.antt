use Rattle.instance_warnings.proofs.Common.{◌≡◌, ◌++◌, drop, enumerate_from, flat_map}
use Rattle.instance_warnings.specs.Warnings.{kind_warning}
use Rattle.instance_warnings.proofs.judging.push_kinds.Given as goal

abbrev pub invariant-loop-k : goal.invariant-loop-k
invariant-loop-k l = l.list.items ++ flat_map (kind_warning l.others) (enumerate_from l.k (drop l.k l.kinds)) ≡ l.fn.list.items ++ flat_map (kind_warning l.others) (enumerate_from 0 l.kinds)
