use Rattle.search_core.proofs.Counted.{calls_enough, calls_exact, calls_within}
use Rattle.search_core.proofs.laws.steps_are_counted.Goals as goal

pub returns : goal.returns
returns c = record { within = calls_within; exact = calls_exact; enough = calls_enough }
