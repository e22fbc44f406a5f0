use Rattle.local_moves.proofs.Common.{◌≡◌, map, take, reshifted}
use Rattle.local_moves.proofs.reshifting.gone_over.Given as goal

abbrev pub invariant-loop-duty : goal.invariant-loop-duty
invariant-loop-duty l = l.made.items ≡ map (reshifted l.instance l.from l.to) (take l.duty-index l.duties)
