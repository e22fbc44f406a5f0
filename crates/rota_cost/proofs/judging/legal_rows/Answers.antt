use Rattle.rota_cost.proofs.RowLaw.{legal_by_answer}
use Rattle.rota_cost.proofs.judging.legal_rows.Goals as goal

pub returns-clause-legal : goal.returns-clause-legal
returns-clause-legal c = legal_by_answer c.args.instance.now c.args.rows.now _ c.judge_rows.ensures
