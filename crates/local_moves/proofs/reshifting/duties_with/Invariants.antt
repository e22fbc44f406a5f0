use Rattle.local_moves.proofs.Common.{◌≡◌, ◌==◌, filter, take, rota_of}
use Rattle.local_moves.proofs.reshifting.duties_with.Given as goal

abbrev pub invariant-loop-row : goal.invariant-loop-row
invariant-loop-row l = l.duties.items ≡ filter (λ d. d.shift == l.shift) (rota_of (take l.row-index l.rows))
