use Rattle.greedy.proofs.Falls.{cost_falls}
use Rattle.greedy.proofs.laws.gain_is_the_fall_of_cost.Goals as goal

pub returns : goal.returns
returns c = cost_falls
