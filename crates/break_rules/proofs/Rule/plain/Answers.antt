use Rattle.break_rules.proofs.Plain.{legal_lists-plain}
use Rattle.break_rules.proofs.Rule.plain.Goals as goal

pub returns-clause-empty : goal.returns-clause-empty
returns-clause-empty c = legal_lists-plain
