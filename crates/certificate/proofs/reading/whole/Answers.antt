use Rattle.certificate.proofs.Common.{err_from_is_err_and}
use Rattle.certificate.proofs.Whole.{stop_notes}
use Rattle.certificate.proofs.reading.whole.Goals as goal

pub returns-in_err-notes : goal.returns-in_err-notes
returns-in_err-notes c =
    let p = err_from_is_err_and c.from_residual-in_err-notes.result c.from_residual-in_err-notes.ensures.1 in
    rw (p.1, p.2) (stop_notes c.args.bytes.now c.in_ok-cert.cert c.in_ok-cert.rest.now c.in_err-notes.field-0.0 c.in_ok-cert.ensures c.in_err-notes.ensures)
