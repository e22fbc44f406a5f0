use Rattle.certificate.proofs.Common.{line_at, row_in}
use Rattle.certificate.proofs.Loops.{Goes}
use Rattle.certificate.proofs.reading.row_lines.Given as goal

abbrev pub invariant-loop : goal.invariant-loop
invariant-loop l = Goes (line_at row_in) l.count l.bytes l.list.items l.counter l.rest
