use Rattle.search_book.proofs.Common.{ℕ, List, subst, err_from_is_err_and, OpenFails}
use Rattle.std.specs.Prelude.{Option}
use Rattle.search_book.proofs.Heads.{head_cause}
use Rattle.search_book.proofs.head.open_head.Goals as goal

pub returns-in_err-journal-2-clause-cause : goal.returns-in_err-journal-2-clause-cause
returns-in_err-journal-2-clause-cause g c =
    let K = g.D.Disk in
    let p = err_from_is_err_and c.from_residual-in_err-journal-2.result c.from_residual-in_err-journal-2.ensures.1 in
    let fault = c.in_err-journal-2.field-0.0 in
    let cause = subst (λ (o : Option (List ℕ)). OpenFails c.args.limit o (K.faults c.settle.new.disk) (K.faults c.open.new.disk) fault) c.settle.ensures.looks.same c.in_err-journal-2.ensures.cause in
    rw (p.1, p.2)
    (head_cause c.args.limit c.in_ok-len.len c.args.head.now (K.reads c.args.disk.now) (K.faults c.args.disk.now) (K.faults c.settle.new.disk) (K.faults c.open.new.disk) c.settle.ensures.cause.grows c.in_ok-len.ensures.length c.if-len-eq0.false fault cause)
