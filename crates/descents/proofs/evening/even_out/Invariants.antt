use Rattle.descents.proofs.Common.{IsEvenedBy}
use Rattle.descents.proofs.evening.even_out.Given as goal

abbrev pub invariant-loop-left : goal.invariant-loop-left
invariant-loop-left l = IsEvenedBy l.instance l.fn.draft l.draft l.rounds l.left

abbrev pub decreases-loop-left : goal.decreases-loop-left
decreases-loop-left l = l.left
