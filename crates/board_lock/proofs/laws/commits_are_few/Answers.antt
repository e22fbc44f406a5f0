use Rattle.board_lock.proofs.Bounded.{commits_few}
use Rattle.board_lock.proofs.laws.commits_are_few.Goals as goal

pub returns : goal.returns
returns c = commits_few
