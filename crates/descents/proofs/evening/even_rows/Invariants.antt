use Rattle.descents.proofs.Common.{IsEvenedBy}
use Rattle.descents.proofs.evening.even_rows.Given as goal

abbrev pub invariant-loop-k : goal.invariant-loop-k
invariant-loop-k l = IsEvenedBy l.instance l.fn.draft l.draft l.fn.left l.left
