use Rattle.rota_cost.proofs.Common.{sym, ◌∙◌}
use Rattle.rota_cost.proofs.Runs.{run_next}
use Rattle.rota_cost.proofs.judging.judge_row.Goals as goal

pub returns-clause-run : goal.returns-clause-run
returns-clause-run c = run_next c.args.before.now c.args.run c.args.row.now _ c.requires (sym c.is_in_order.ensures ∙ c.if-not-is_in_order.false) c.heads_with-heads.ensures
