use Rattle.certificate.proofs.Common.{length}
use Rattle.certificate.proofs.Loops.{Passed}
use Rattle.certificate.proofs.reading.notes.Given as goal

abbrev pub invariant-loop-rest : goal.invariant-loop-rest
invariant-loop-rest l = Passed l.bytes l.rest

abbrev pub decreases-loop-rest : goal.decreases-loop-rest
decreases-loop-rest l = length l.rest
