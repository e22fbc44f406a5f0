use Rattle.greedy.proofs.Common.{◌∙◌}
use Rattle.greedy.proofs.Rounding.{plan_rows, plan_legal, plan_cheaper, rows_after}
use Rattle.greedy.proofs.plan.greedy_plan_until.Goals as goal

pub returns-clause-rounds : goal.returns-clause-rounds
returns-clause-rounds g c = rows_after c.args.instance.now c.in_ok-draft.draft.cover.duties _ c.in_ok-draft.ensures.rounds (c.new.ensures ∙ c.in_ok-draft.ensures.draft.listed)

pub returns-clause-rows : goal.returns-clause-rows
returns-clause-rows g c = λ free. plan_rows c.args.instance.now c.in_ok-draft.draft.cover.duties _ (c.in_ok-draft.ensures.leads free) (c.new.ensures ∙ c.in_ok-draft.ensures.draft.listed)

pub returns-clause-legal : goal.returns-clause-legal
returns-clause-legal g c = plan_legal c.args.instance.now _ (returns-clause-rounds g c)

pub returns-clause-cheaper : goal.returns-clause-cheaper
returns-clause-cheaper g c = plan_cheaper c.args.instance.now _ c.in_ok-draft.ensures.draft.valid (returns-clause-rounds g c)
