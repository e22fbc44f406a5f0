use Rattle.head_splits.proofs.Common.{sym, ◌∙◌, not-true, not-false}
use Rattle.head_splits.proofs.PlanRows.{plan_judged}
use Rattle.head_splits.proofs.settling.judge.Goals as goal

pub returns-then-is_plan : goal.returns-then-is_plan
returns-then-is_plan c =
    (c.requires.settled, not-true _ (sym (plan_judged c.args.instance.now c.args.cuts.now c.args.rows c.requires.rows) ∙ sym c.is_plan.ensures ∙ c.if-is_plan.true), c.requires.rows)

pub returns-else-is_plan : goal.returns-else-is_plan
returns-else-is_plan c =
    (c.requires.settled, not-false _ (sym (plan_judged c.args.instance.now c.args.cuts.now c.args.rows c.requires.rows) ∙ sym c.is_plan.ensures ∙ c.if-is_plan.false))
