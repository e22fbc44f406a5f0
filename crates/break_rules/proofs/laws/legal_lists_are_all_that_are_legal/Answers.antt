use Rattle.break_rules.proofs.Once.{once_legal}
use Rattle.break_rules.proofs.AllLegal.{any_legal, legal_rising}
use Rattle.break_rules.proofs.laws.legal_lists_are_all_that_are_legal.Goals as goal

pub returns : goal.returns
returns c = record { exact = any_legal; once = once_legal; rising = legal_rising }
