use Rattle.greedy.proofs.Common.{refl, IfOk-weaker}
use Rattle.greedy.proofs.plan.greedy_plan.Goals as goal

pub returns-clause-rows : goal.returns-clause-rows
returns-clause-rows c = IfOk-weaker c.greedy_plan_until.result _ _ (λ rows h. h refl) c.greedy_plan_until.ensures.rows
