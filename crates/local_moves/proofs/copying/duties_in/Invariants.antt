use Rattle.local_moves.proofs.Common.{◌≡◌, take, rota_of}
use Rattle.local_moves.proofs.copying.duties_in.Given as goal

abbrev pub invariant-loop-row : goal.invariant-loop-row
invariant-loop-row l = l.duties.items ≡ rota_of (take l.row-index l.rows)
