use Rattle.shift_instance.proofs.Common.{◌≡◌, drop, map, enumerate_from, zip, first_cause, band_cause}
use Rattle.shift_instance.proofs.judging.judge_ends.Given as goal

abbrev pub invariant-loop-t : goal.invariant-loop-t
invariant-loop-t l = first_cause (map band_cause (enumerate_from l.t (zip (drop l.t l.needs) (drop l.t l.ends)))) ≡ first_cause (map band_cause (enumerate_from 0 (zip l.needs l.ends)))
