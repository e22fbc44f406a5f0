use Rattle.report_grafts.proofs.Ends.{judged_made}
use Rattle.report_grafts.proofs.exporting.judged_branches.Goals as goal

pub returns-in_ok-branches_of-in-Ok-clause-made : goal.returns-in_ok-branches_of-in-Ok-clause-made
returns-in_ok-branches_of-in-Ok-clause-made c =
    judged_made c.args.instance.now c.args.whole.now c.in_ok-branches_of-in-Ok.field-0.items c.in-Ok.ensures.accepted c.in_ok-branches_of-in-Ok.ensures
