use Rattle.short_cover.proofs.LeastSteps.{IsLeastSoFar}
use Rattle.short_cover.proofs.least.least_among.Given as goal

abbrev pub invariant-loop-k : goal.invariant-loop-k
invariant-loop-k l = IsLeastSoFar l.instance l.attendance.duties l.first l.k l.least
