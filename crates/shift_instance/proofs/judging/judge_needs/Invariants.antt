use Rattle.shift_instance.proofs.Common.{◌≡◌, drop, map, enumerate_from, first_cause, need_cause}
use Rattle.shift_instance.proofs.judging.judge_needs.Given as goal

abbrev pub invariant-loop-t : goal.invariant-loop-t
invariant-loop-t l = first_cause (map need_cause (enumerate_from l.t (drop l.t l.needs))) ≡ first_cause (map need_cause (enumerate_from 0 l.needs))
