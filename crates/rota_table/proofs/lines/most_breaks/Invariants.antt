use Rattle.rota_table.proofs.Common.{◌≡◌, fold, length, max, take}
use Rattle.rota_table.proofs.lines.most_breaks.Given as goal

abbrev pub invariant-loop-row : goal.invariant-loop-row
invariant-loop-row l = l.most ≡ fold (λ most r. max most (length r.breaks)) 0 (take l.row-index l.rows)
