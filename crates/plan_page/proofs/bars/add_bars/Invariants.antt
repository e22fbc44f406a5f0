use Rattle.plan_page.proofs.Common.{◌≡◌, ◌++◌, map, take, string_bytes, flat_map, row_bar}
use Rattle.plan_page.proofs.bars.add_bars.Given as goal

abbrev pub invariant-loop-row : goal.invariant-loop-row
invariant-loop-row l = string_bytes l.page ≡ string_bytes l.fn.page ++ flat_map (row_bar l.instance l.day l.starting) (map (λ r. r.now) (take l.row-index l.rows))
