use Rattle.greedy.proofs.Rounds.{greedy_ready}
use Rattle.greedy.proofs.laws.greedy_plan_is_ready.Goals as goal

pub returns : goal.returns
returns c = greedy_ready
