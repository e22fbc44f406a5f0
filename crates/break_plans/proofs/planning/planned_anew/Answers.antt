use Rattle.break_plans.proofs.Planned.{ok_cheaper, ok_cost, ok_floor, ok_searched}
use Rattle.break_plans.proofs.planning.planned_anew.Goals as goal

pub returns-clause-searched : goal.returns-clause-searched
returns-clause-searched g c =
    ok_searched c.args.instance.now c.args.rows.now c.recount-before.result c.args.steps c.in_ok-base.base c.in_ok-run.run' c.anew_of.result
    c.recount-before.ensures.cost c.in_ok-base.ensures.pins c.in_ok-run.ensures.searched c.anew_of.ensures.cheaper c.anew_of.ensures.cost c.anew_of.ensures.floor c.anew_of.ensures.steps

pub returns-clause-cheaper : goal.returns-clause-cheaper
returns-clause-cheaper g c =
    ok_cheaper c.args.instance.now c.args.rows.now c.recount-before.result c.args.steps c.in_ok-base.base c.in_ok-run.run' c.anew_of.result
    c.few_pins.ensures.valid c.recount-before.ensures.cost c.in_ok-base.ensures.pins c.in_ok-run.ensures.searched c.anew_of.ensures.cheaper

pub returns-clause-cost : goal.returns-clause-cost
returns-clause-cost g c =
    ok_cost c.args.instance.now c.args.rows.now c.recount-before.result c.args.steps c.in_ok-base.base c.in_ok-run.run' c.anew_of.result
    c.few_pins.ensures.valid c.recount-before.ensures.cost c.in_ok-base.ensures.pins c.in_ok-run.ensures.searched c.anew_of.ensures.cheaper c.anew_of.ensures.cost

pub returns-clause-floor : goal.returns-clause-floor
returns-clause-floor g c =
    ok_floor c.args.instance.now c.args.rows.now c.recount-before.result c.args.steps c.in_ok-base.base c.in_ok-run.run' c.anew_of.result
    c.few_pins.ensures.valid c.in_ok-base.ensures.pins c.in_ok-run.ensures.searched c.anew_of.ensures.enough
