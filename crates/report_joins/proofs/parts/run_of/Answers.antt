use Rattle.report_joins.proofs.Common.{◌≡◌, ◌∷◌, length, subst, err_from_is_err_and, Reads}
use Rattle.report_joins.proofs.Reading.{left_is, splits_are}
use Rattle.report_joins.proofs.parts.run_of.Goals as goal

pub returns-in_err-run-clause-fault : goal.returns-in_err-run-clause-fault
returns-in_err-run-clause-fault c =
    let p = err_from_is_err_and c.from_residual-in_err-run.result c.from_residual-in_err-run.ensures.1 in
    let rest = c.next_line.new.self in
    let known = c.args.known.now in
    let first = c.in-Some.first in
    let place = c.in-Some-place_at.place in
    let found = c.in-Some-place_at.ensures in
    let read : c.in_ok-reader.reader ≡ first ∷ rest = subst (λ o. Reads o c.in_ok-reader.reader rest) c.in-Some.is c.in_ok-first.ensures.read in
    let left = c.in_err-run.ensures.fault in
    let number = splits_are known (length c.args.ends.now) place.splits c.requires.counted found.2 found.3 in
    rw (p.1, p.2) (left_is c.args.ends.now known c.args.lines.now c.in_ok-reader.reader rest first c.node_of-node.result place.node place.splits c.in_err-run.field-0.0 found.0 c.in_ok-reader.ensures.behind read found.1 number left)
