use Rattle.dual_bound.proofs.Common.{sym, refl, subst, Problem, IsSettledNode}
use Rattle.dual_bound.proofs.PlanFloor.{plan_sealed}
use Rattle.dual_bound.proofs.settling.seal.Goals as goal

pub invariant_of-result : goal.invariant_of-result
invariant_of-result c =
    let i = c.args.instance.now in
    subst (λ (j : Problem). IsSettledNode (record { instance = j; cuts = c.args.cuts; plan = c.cost_plan.result })) (sym c.of.ensures)
    (record { settled = c.requires.settled; plan = plan_sealed i c.args.cuts c.args.rows c.cost_plan.result c.requires.some c.requires.rows c.cost_plan.ensures })

pub returns : goal.returns
returns c = (c.of.ensures, refl, invariant_of-result c)
