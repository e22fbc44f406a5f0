use Rattle.graft_runs.proofs.Planned.{anew, plan_small, true_plan}
use Rattle.graft_runs.proofs.breaks.breaks_text.Goals as goal

pub searched-requires-clause-legal : goal.searched-requires-clause-legal
searched-requires-clause-legal c = (true_plan c.args.instance.now c.args.whole.now (c.in_ok-cost.cost, c.in_ok-cost.rows.now) c.in_ok-cost.ensures.accepted c.in_ok-cost.ensures.plan).0

pub searched-requires-clause-cost : goal.searched-requires-clause-cost
searched-requires-clause-cost c = plan_small c.args.instance.now c.args.whole.now (c.in_ok-cost.cost, c.in_ok-cost.rows.now) c.slots-valid.ensures.valid c.in_ok-cost.ensures.accepted c.in_ok-cost.ensures.plan

pub returns-clause-text : goal.returns-clause-text
returns-clause-text c =
    let i = c.args.instance.now in
    let whole = c.args.whole.now in
    let told = true_plan i whole (c.in_ok-cost.cost, c.in_ok-cost.rows.now) c.in_ok-cost.ensures.accepted c.in_ok-cost.ensures.plan in
    anew i whole c.args.steps (c.in_ok-cost.cost, c.in_ok-cost.rows.now) c.in_ok-run.run' c.in_ok-cheaper_text.field-0.items c.slots-valid.ensures.valid c.in_ok-cost.ensures.accepted c.in_ok-cost.ensures.plan told.0 told.1
    c.in_ok-run.ensures.search c.in_ok-run.ensures.greedy c.in_ok-cheaper_text.ensures
