use Rattle.local_moves.proofs.Common.{◌≡◌, take}
use Rattle.local_moves.proofs.undoing.copies.Given as goal

abbrev pub invariant-loop-duty : goal.invariant-loop-duty
invariant-loop-duty l = l.copies.items ≡ take l.duty-index l.duties
