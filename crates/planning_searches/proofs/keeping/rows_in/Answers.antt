use Rattle.planning_searches.proofs.keeping.rows_in.Goals as goal

pub returns-in-Some : goal.returns-in-Some
returns-in-Some c = c.args.plan.now.legal c.in-Some._cost c.in-Some.rows c.in-Some.is
