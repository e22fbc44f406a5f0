use Rattle.certificate.proofs.Kept.{Gone}
use Rattle.certificate.proofs.reading.behind_lines.Given as goal

abbrev pub invariant-loop : goal.invariant-loop
invariant-loop l = Gone l.count l.bytes l.counter l.rest
