use Rattle.rota_cost.proofs.Coverage.{costs_below}
use Rattle.rota_cost.proofs.laws.costs_below_top.Goals as goal

pub returns : goal.returns
returns c = costs_below
