use Rattle.std.proofs.Common.{sym, ◌∙◌}
use Rattle.planning_breaks.specs.declared.anew.Rebroken.{Rebroken}
use Rattle.planning_breaks.proofs.Breaks.{best_after, bounded, rebroken}
use Rattle.planning_breaks.proofs.anew.with_breaks.Goals as goal

pub planned_anew-requires-clause-legal : goal.planned_anew-requires-clause-legal
planned_anew-requires-clause-legal g c = c.args.plan.legal c.in-Some.cost_before c.in-Some.before (sym c.in_ok-cost_before.ensures.rows ∙ c.in-Some.is)

pub returns-clause-rebroken : goal.returns-clause-rebroken
returns-clause-rebroken g c =
    let r : Rebroken = record { plan = c.in_ok-plan.plan; before = c.in-Some.before; cost_before = c.in-Some.cost_before; floor = c.max.result } in
    rebroken c.args.plan r c.in_ok-anew.anew.cheaper (sym c.in_ok-cost_before.ensures.rows ∙ c.in-Some.is) c.in_ok-plan.ensures.instance c.in_ok-plan.ensures.cert
    c.args.plan.accepted c.in_ok-plan.plan.accepted c.in_ok-anew.ensures.cheaper

pub returns-clause-found : goal.returns-clause-found
returns-clause-found g c =
    record {
      anew = c.in_ok-anew.anew;
      searched = c.in_ok-anew.ensures.searched;
      ends = c.in_ok-anew.ensures.ends;
      report = c.in_ok-plan.ensures.cert;
      floor = c.max.ensures;
    }

pub returns-clause-floor : goal.returns-clause-floor
returns-clause-floor g c =
    let r : Rebroken = record { plan = c.in_ok-plan.plan; before = c.in-Some.before; cost_before = c.in-Some.cost_before; floor = c.max.result } in
    bounded c.args.plan r c.in_ok-anew.anew.floor c.args.plan.accepted c.max.ensures c.in_ok-anew.ensures.floor

pub returns-clause-enough : goal.returns-clause-enough
returns-clause-enough g c =
    let S = g.S.Stop in
    let r : Rebroken = record { plan = c.in_ok-plan.plan; before = c.in-Some.before; cost_before = c.in-Some.cost_before; floor = c.max.result } in
    best_after c.args.plan r c.in_ok-anew.anew.cheaper c.in_ok-anew.anew.cost c.in_ok-anew.anew.floor c.args.steps (S.can_ask c.args.stop.now) (sym c.in_ok-cost_before.ensures.rows ∙ c.in-Some.is) c.in_ok-plan.ensures.cert
    c.args.plan.accepted c.in_ok-anew.ensures.cheaper c.in_ok-anew.ensures.cost c.max.ensures c.in_ok-anew.ensures.enough
