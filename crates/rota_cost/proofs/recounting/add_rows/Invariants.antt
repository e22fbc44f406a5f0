use Rattle.rota_cost.proofs.Common.{◌≡◌, ℕ, ◌<◌, take, sum_by, get_or, slots, working}
use Rattle.rota_cost.proofs.recounting.add_rows.Given as goal

abbrev pub invariant-loop-row : goal.invariant-loop-row
invariant-loop-row l = (t : ℕ) → t < slots l.instance → get_or l.counts t 0 ≡ sum_by (working l.instance t) (take l.row-index l.rows)
