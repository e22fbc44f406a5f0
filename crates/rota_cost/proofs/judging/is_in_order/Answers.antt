use Rattle.rota_cost.proofs.Common.{arith, sym, ◌∙◌}
use Rattle.rota_cost.proofs.RowLaw.{order_last}
use Rattle.rota_cost.proofs.judging.is_in_order.Goals as goal

pub returns-else-n-eq0 : goal.returns-else-n-eq0
returns-else-n-eq0 c = c.is_before.ensures ∙ sym (order_last c.args.before.now _ c.index-before-n.result c.args.row.now (omega arith) c.index-before-n.is)
