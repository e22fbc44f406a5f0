use Rattle.search_core.proofs.Boards.{commit_happens, refusal_leaves, take_happens, take_leaves, yield_happens}
use Rattle.search_core.proofs.laws.boards_are_cores.Goals as goal

pub returns : goal.returns
returns c = record { take = take_happens; commit = commit_happens; yields = yield_happens; no_node = take_leaves; refusal = refusal_leaves }
