use Rattle.certificate.proofs.Common.{err_from_is_err_and, line_at, row_in}
use Rattle.certificate.proofs.Loops.{next_line, stops_line, done_lines}
use Rattle.certificate.proofs.reading.row_lines.Goals as goal

pub returns-in_err-row : goal.returns-in_err-row
returns-in_err-row c =
    let p = err_from_is_err_and c.from_residual-in_err-row.result c.from_residual-in_err-row.ensures.1 in
    rw (p.1, p.2) (stops_line (line_at row_in) c.args.count c.args.bytes.now c.loop.list.items c.loop.counter c.loop.rest.now c.in_err-row.field-0.0 c.loop-test.true c.in_err-row.ensures c.loop.invariant)

pub loop-preserved : goal.loop-preserved
loop-preserved c = rw c.in_ok-push.ensures.items (next_line (line_at row_in) c.args.count c.args.bytes.now c.loop.list.items c.loop.counter c.loop.rest.now c.in_ok-row.row c.in_ok-row.after.now c.loop-test.true c.in_ok-row.ensures c.loop.invariant)

pub returns : goal.returns
returns c = done_lines (line_at row_in) c.args.count c.args.bytes.now c.loop.list.items c.loop.counter c.loop.rest.now c.loop-test.false c.loop.invariant
