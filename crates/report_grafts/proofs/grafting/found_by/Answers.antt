use Rattle.report_grafts.proofs.Common.{arith, None, Bound, found_by}
use Rattle.report_grafts.proofs.Plans.{claim_refused, claim_tells}
use Rattle.report_grafts.proofs.grafting.found_by.Goals as goal

pub unreachable-requires : goal.unreachable-requires
unreachable-requires c =
    claim_refused c.args.instance.now (record { status = Bound; plan = None; bound = 18446744073709551615; lines = c.args.lines }) c.requires (omega arith) c.in-Ok.ensures.causes

pub told_by-requires : goal.told_by-requires
told_by-requires c =
    (found_by c.args.instance.now c.args.lines, claim_tells c.args.instance.now (record { status = Bound; plan = None; bound = 18446744073709551615; lines = c.args.lines }) c.in-Err.why c.requires (omega arith) c.in-Err.ensures.refused)

pub returns-clause-found : goal.returns-clause-found
returns-clause-found c =
    c.in_ok-told_by-in-Err.ensures (found_by c.args.instance.now c.args.lines)
    (claim_tells c.args.instance.now (record { status = Bound; plan = None; bound = 18446744073709551615; lines = c.args.lines }) c.in-Err.why c.requires (omega arith) c.in-Err.ensures.refused)
