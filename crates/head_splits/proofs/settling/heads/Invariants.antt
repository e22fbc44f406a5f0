use Rattle.head_splits.proofs.Common.{◌≡◌, ◌≤◌, ◌*◌, take, rota_of, heads_on}
use Rattle.head_splits.proofs.settling.heads.Given as goal

abbrev pub invariant-loop-row : goal.invariant-loop-row
invariant-loop-row l = record { heads : l.sum ≡ heads_on (rota_of (take l.row-index l.rows)) l.shift l.day; few : l.sum ≤ 65535 * l.row-index }
