use Rattle.shift_instance.proofs.Common.{types_causes}
use Rattle.shift_instance.proofs.Judged.{type_fault, type_passes}
use Rattle.shift_instance.proofs.judging.judge_kinds.Goals as goal

pub returns-in-Some : goal.returns-in-Some
returns-in-Some c = type_fault c.args.per_day c.args.kinds.now c.loop-k.k c.index-kinds-k.result (types_causes c.args.per_day c.args.kinds.now) c.in-Some.fault c.loop-k-test.true c.index-kinds-k.is c.in-Some.ensures c.loop-k.invariant

pub loop-k-preserved : goal.loop-k-preserved
loop-k-preserved c = type_passes c.args.per_day c.args.kinds.now c.loop-k.k c.index-kinds-k.result (types_causes c.args.per_day c.args.kinds.now) c.loop-k-test.true c.index-kinds-k.is c.in-None.ensures c.loop-k.invariant
