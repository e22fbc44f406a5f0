use Rattle.certificate.proofs.Common.{err_from_is_err_and}
use Rattle.certificate.proofs.Kept.{gone_none, gone_more, gone_stops, gone_all}
use Rattle.certificate.proofs.reading.behind_lines.Goals as goal

pub loop-init : goal.loop-init
loop-init c = gone_none c.args.count c.args.bytes.now

pub returns-in_err-after : goal.returns-in_err-after
returns-in_err-after c =
    let p = err_from_is_err_and c.from_residual.result c.from_residual.ensures.1 in
    rw (p.1, p.2) (gone_stops c.args.count c.args.bytes.now c.loop.counter c.loop.rest.now c.in_err-after.field-0.0 c.loop-test.true c.in_err-after.ensures c.loop.invariant)

pub loop-preserved : goal.loop-preserved
loop-preserved c = gone_more c.args.count c.args.bytes.now c.loop.counter c.loop.rest.now c.in_ok-after.field-0-0 c.in_ok-after.after.now c.loop-test.true c.in_ok-after.ensures c.loop.invariant

pub returns : goal.returns
returns c = gone_all c.args.count c.args.bytes.now c.loop.counter c.loop.rest.now c.loop-test.false c.loop.invariant
