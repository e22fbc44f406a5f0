use Rattle.gated_journal.proofs.Once.{unfinished_refused}
use Rattle.gated_journal.proofs.laws.unfinished_is_refused.Goals as goal

pub returns : goal.returns
returns c = unfinished_refused
