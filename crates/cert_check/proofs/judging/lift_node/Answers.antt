use Rattle.cert_check.proofs.Common.{sym, ◌∙◌}
use Rattle.cert_check.proofs.Lifted.{lift_good}
use Rattle.cert_check.proofs.judging.lift_node.Goals as goal

pub returns-in-Some-clause-nodes : goal.returns-in-Some-clause-nodes
returns-in-Some-clause-nodes c =
    lift_good c.args.instance.now c.args.tree.now c.give_floor.new.tree c.args.line.now c.args.node c.in_ok-cuts.cuts c.in_ok-floor.field-0 c.in-Some.floor c.requires.names (sym c.is_unsplit.ensures ∙ c.if-not-is_unsplit.false)
    c.in_ok-cuts.ensures.cuts c.requires.gives c.in_ok-floor.ensures.floor c.in-Some.is c.give_floor.ensures
