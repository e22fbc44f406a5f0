use Rattle.board_lock.proofs.Turned.{turns_are_calls}
use Rattle.board_lock.proofs.laws.turns_are_calls.Goals as goal

pub returns : goal.returns
returns c = turns_are_calls
