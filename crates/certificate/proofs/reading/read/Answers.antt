use Rattle.certificate.proofs.Whole.{spells, same_cert, stopped_none, departs}
use Rattle.certificate.proofs.reading.read.Goals as goal

pub returns-in-Ok-clause-found : goal.returns-in-Ok-clause-found
returns-in-Ok-clause-found c = spells c.args.bytes.now c.in-Ok.cert c.in-Ok.ensures.0 c.in-Ok.ensures.1 c.in-Ok.ensures.2

pub returns-in-Ok-clause-only : goal.returns-in-Ok-clause-only
returns-in-Ok-clause-only c = λ cert s. same_cert c.args.bytes.now c.in-Ok.cert cert c.in-Ok.ensures.0 c.in-Ok.ensures.1 s

pub returns-in-Err-Left-clause-only : goal.returns-in-Err-Left-clause-only
returns-in-Err-Left-clause-only c = λ cert s. stopped_none c.args.bytes.now c.in-Err-Left.left (rw c.in-Err-Left.field-0-is at c.in-Err-Left.ensures) cert s

pub returns-in-Err-Left-clause-fault : goal.returns-in-Err-Left-clause-fault
returns-in-Err-Left-clause-fault c = departs c.args.bytes.now c.in-Err-Left.left c.line_number.result (rw c.in-Err-Left.field-0-is at c.in-Err-Left.ensures) c.line_number.ensures
