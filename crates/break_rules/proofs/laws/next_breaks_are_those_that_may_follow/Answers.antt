use Rattle.break_rules.proofs.NextLaws.{next_exact, next_rising}
use Rattle.break_rules.proofs.laws.next_breaks_are_those_that_may_follow.Goals as goal

pub returns : goal.returns
returns c = record { exact = next_exact; rising = next_rising }
