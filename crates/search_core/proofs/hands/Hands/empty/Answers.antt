use Rattle.search_core.proofs.Runs.{empty_apart}
use Rattle.search_core.proofs.hands.Hands.empty.Goals as goal

pub invariant_of-result : goal.invariant_of-result
invariant_of-result c = empty_apart
