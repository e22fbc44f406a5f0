use Rattle.descents.proofs.Descents.{IsLooked}
use Rattle.descents.proofs.descending.improve_part.Given as goal

abbrev pub invariant-loop-place : goal.invariant-loop-place
invariant-loop-place l = IsLooked l.instance l.fn.draft l.draft l.part l.fn.left l.left l.place
