use Rattle.cert_check.proofs.Common.{err_from_is_err_and}
use Rattle.cert_check.proofs.Causes.{line_refused}
use Rattle.cert_check.proofs.checking.check.Goals as goal

pub returns-in_err-tree-clause-refused : goal.returns-in_err-tree-clause-refused
returns-in_err-tree-clause-refused c =
    let p = err_from_is_err_and c.from_residual.result c.from_residual.ensures.1 in
    rw (p.1, p.2) (line_refused c.args.instance.now c.args.cert.now c.in_err-tree.field-0.0 c.in_err-tree.ensures.bad)
