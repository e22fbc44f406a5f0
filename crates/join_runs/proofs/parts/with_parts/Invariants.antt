use Rattle.join_runs.proofs.Before.{AreJoinedBefore}
use Rattle.join_runs.proofs.parts.with_parts.Given as goal

abbrev pub invariant-loop-k : goal.invariant-loop-k
invariant-loop-k g l = AreJoinedBefore g.P.Source.left l.fn.instance l.fn.whole l.fn.parts l.parts l.k l.joining
