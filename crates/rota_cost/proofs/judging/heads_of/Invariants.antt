use Rattle.rota_cost.proofs.Common.{◌≡◌, ◌≤◌, ◌*◌, take, heads_of}
use Rattle.rota_cost.proofs.judging.heads_of.Given as goal

abbrev pub invariant-loop-row : goal.invariant-loop-row
invariant-loop-row l = record { sum : l.sum ≡ heads_of (take l.row-index l.rows) l.shift l.day; few : l.sum ≤ 65535 * l.row-index }
