use Rattle.descents.proofs.Tries.{tried_none}
use Rattle.descents.proofs.descending.improve_with.Goals as goal

pub returns-in-Ok-undo-clause-none : goal.returns-in-Ok-undo-clause-none
returns-in-Ok-undo-clause-none c =
    tried_none c.args.instance.now c.args.draft.now c.apply.new.self c.args.step.now c.cost-before.result c.cost.result c.requires.instance c.apply.ensures.instance c.in-Ok.ensures.moved c.cost-before.ensures.cost c.cost.ensures.cost c.if-cost-before.false
