use Rattle.cert_check.proofs.Common.{err_from_is_err_and}
use Rattle.certificate.proofs.Acceptance.{bounds, plans}
use Rattle.cert_check.proofs.Causes.{check_good, check_plan}
use Rattle.cert_check.proofs.checking.judge_rest.Goals as goal

pub returns-in_err-cost-clause-refused : goal.returns-in_err-cost-clause-refused
returns-in_err-cost-clause-refused c =
    let p = err_from_is_err_and c.from_residual.result c.from_residual.ensures.1 in
    rw (p.1, p.2)
    (check_plan c.args.instance.now c.args.cert.now c.args.tree.now c.least_floor-found.result c.in_err-cost.field-0.0 c.requires.good
    c.requires.causes c.least_floor-found.ensures c.if-found-cert.false c.in_err-cost.ensures)

pub returns-clause-accepted : goal.returns-clause-accepted
returns-clause-accepted c =
    check_good c.args.instance.now c.args.cert.now c.args.tree.now c.least_floor-found.result c.requires.good c.requires.causes
    c.least_floor-found.ensures c.if-found-cert.false c.in_ok-cost.ensures.0

pub returns-clause-enough : goal.returns-clause-enough
returns-clause-enough c = bounds c.args.instance.now c.args.cert.now
    (check_good c.args.instance.now c.args.cert.now c.args.tree.now c.least_floor-found.result c.requires.good c.requires.causes
    c.least_floor-found.ensures c.if-found-cert.false c.in_ok-cost.ensures.0)

pub returns-clause-plan : goal.returns-clause-plan
returns-clause-plan c = λ claimed rows e. plans c.args.instance.now c.args.cert.now
    (check_good c.args.instance.now c.args.cert.now c.args.tree.now c.least_floor-found.result c.requires.good c.requires.causes
    c.least_floor-found.ensures c.if-found-cert.false c.in_ok-cost.ensures.0) (claimed, rows) e
