use Rattle.rota_cost.proofs.Common.{alike_cost, alike_from_counts}
use Rattle.rota_cost.proofs.laws.cost_knows_no_order.Goals as goal

pub returns : goal.returns
returns c = λ i rota other same. alike_cost i rota other (alike_from_counts rota other same)
