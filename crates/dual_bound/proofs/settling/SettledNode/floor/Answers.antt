use Rattle.dual_bound.proofs.Common.{ap, ◌∙◌, settled_floor, Settling}
use Rattle.dual_bound.proofs.PlanFloor.{plan_floor}
use Rattle.dual_bound.proofs.settling.SettledNode.floor.Goals as goal

pub returns-in-Some-clause-floor : goal.returns-in-Some-clause-floor
returns-in-Some-clause-floor c =
    c.cost.ensures.cost ∙ plan_floor c.self.inside.instance.value c.self.inside.cuts c.self.inside.plan c.in-Some.costed c.in-Some.is c.self.invariant.plan
    ∙ ap (λ (n : Settling). settled_floor n.instance n.cuts) c.self.view_is
