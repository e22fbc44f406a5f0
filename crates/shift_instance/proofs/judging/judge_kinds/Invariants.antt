use Rattle.shift_instance.proofs.Common.{◌≡◌, drop, take, enumerate_from, flat_map, first_cause, kind_causes, types_causes}
use Rattle.shift_instance.proofs.judging.judge_kinds.Given as goal

abbrev pub invariant-loop-k : goal.invariant-loop-k
invariant-loop-k l = first_cause (flat_map (λ k. kind_causes l.per_day (take k.0 l.kinds) k) (enumerate_from l.k (drop l.k l.kinds))) ≡ first_cause (types_causes l.per_day l.kinds)
