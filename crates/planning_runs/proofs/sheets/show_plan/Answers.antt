use Rattle.planning_runs.proofs.sheets.show_plan.Goals as goal

pub new-requires : goal.new-requires
new-requires c = c.args.plan.now.legal c.in-Some.cost c.in-Some.rows c.in-Some.is

pub page_texts-requires : goal.page_texts-requires
page_texts-requires c = c.args.plan.now.legal c.in-Some.cost c.in-Some.rows c.in-Some.is
