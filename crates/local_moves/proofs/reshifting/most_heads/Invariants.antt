use Rattle.local_moves.proofs.Common.{◌≡◌, ◌+◌, below, heads_on, rota_of, greatest}
use Rattle.local_moves.proofs.reshifting.most_heads.Given as goal

abbrev pub invariant-loop-day : goal.invariant-loop-day
invariant-loop-day l = l.most ≡ greatest (λ day. heads_on (rota_of l.draft.rows) l.to day + heads_on (rota_of l.draft.rows) l.from day) (below l.day)
