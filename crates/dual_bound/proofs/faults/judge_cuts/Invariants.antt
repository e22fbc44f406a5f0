use Rattle.dual_bound.proofs.Common.{◌≡◌, map, enumerate_from, first_cause, cut_cause, cut_causes, pairs_from}
use Rattle.dual_bound.proofs.faults.judge_cuts.Given as goal

abbrev pub invariant-loop-k : goal.invariant-loop-k
invariant-loop-k l = first_cause (map cut_cause (enumerate_from l.k (pairs_from l.cuts l.prices l.k))) ≡ first_cause (cut_causes l.cuts l.prices)
