use Rattle.search_core.proofs.Boards.{commit_of_worker, step_of_worker}
use Rattle.search_core.proofs.laws.posts_are_own.Goals as goal

pub returns : goal.returns
returns c = record { step = step_of_worker; commit = commit_of_worker }
