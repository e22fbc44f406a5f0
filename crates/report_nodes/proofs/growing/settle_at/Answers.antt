use Rattle.report_nodes.proofs.Common.{sym}
use Rattle.cert_check.proofs.Causes.{settle_bad, settle_good}
use Rattle.report_nodes.proofs.Grown.{cuts_at_place, unsplit_of}
use Rattle.report_nodes.proofs.growing.settle_at.Goals as goal

pub returns-in-Some : goal.returns-in-Some
returns-in-Some c =
    let nodes = c.args.nodes.items in
    let node = c.args.node in
    sym (settle_good c.args.instance.now nodes c.lifted.result.items node c.in_ok-cuts.cuts c.in_ok-floor.field-0 c.in-Some.floor (unsplit_of nodes c.deref.result.now node c.is_unsplit.result c.deref.ensures.value c.is_unsplit.ensures c.if-not-is_unsplit.false)
    (cuts_at_place nodes c.deref-2.result.now node c.in_ok-cuts.cuts c.deref-2.ensures.value c.in_ok-cuts.ensures) c.in_ok-floor.ensures c.in-Some.is c.lifted.ensures)

pub returns-in-None : goal.returns-in-None
returns-in-None c =
    let nodes = c.args.nodes.items in
    let node = c.args.node in
    sym (settle_bad c.args.instance.now nodes node c.in_ok-cuts.cuts c.in_ok-floor.field-0 (unsplit_of nodes c.deref.result.now node c.is_unsplit.result c.deref.ensures.value c.is_unsplit.ensures c.if-not-is_unsplit.false)
    (cuts_at_place nodes c.deref-2.result.now node c.in_ok-cuts.cuts c.deref-2.ensures.value c.in_ok-cuts.ensures) c.in_ok-floor.ensures c.in-None.is)
