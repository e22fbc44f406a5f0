use Rattle.report_grafts.proofs.Common.{err_from_is_err_and}
use Rattle.report_grafts.proofs.exporting.export.Goals as goal

pub returns-in_err-branches-clause-fault : goal.returns-in_err-branches-clause-fault
returns-in_err-branches-clause-fault c =
    let p = err_from_is_err_and c.from_residual.result c.from_residual.ensures.1 in
    rw (p.1, p.2) (c.in_err-branches.ensures.fault c.args.node)
