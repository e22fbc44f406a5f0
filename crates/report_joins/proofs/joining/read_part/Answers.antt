use Rattle.report_joins.proofs.Sized.{known_counted, known_fault}
use Rattle.report_joins.proofs.joining.read_part.Goals as goal

pub run_of-requires-clause-counted : goal.run_of-requires-clause-counted
run_of-requires-clause-counted c = known_counted c.args.instance.now c.args.whole.now.lines c.args.known.now c.args.ends.now c.requires.made c.requires.known

pub returns-in-Err-clause-fault : goal.returns-in-Err-clause-fault
returns-in-Err-clause-fault c =
    known_fault c.args.instance.now c.args.whole.now c.args.part.now c.args.ends.now c.args.known.now c.in-Err.fault c.fault_or_refusal.result c.requires.accepted c.requires.made c.requires.known c.in-Err.ensures.fault c.fault_or_refusal.ensures
