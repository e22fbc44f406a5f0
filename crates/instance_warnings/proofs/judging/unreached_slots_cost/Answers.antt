use Rattle.instance_warnings.proofs.Reached.{unreached_costs}
use Rattle.instance_warnings.proofs.judging.unreached_slots_cost.Goals as goal

pub returns : goal.returns
returns c = record { least = λ rota legal. unreached_costs c.args.instance.now rota legal }
