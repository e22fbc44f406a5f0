use Rattle.plan_page.proofs.Common.{◌≡◌, ◌++◌, take, string_bytes, enumerate_from, flat_map, day_row}
use Rattle.plan_page.proofs.overview.add_day_rows.Given as goal

abbrev pub invariant-loop-k : goal.invariant-loop-k
invariant-loop-k l = string_bytes l.page ≡ string_bytes l.fn.page ++ flat_map (day_row l.instance) (enumerate_from 0 (take l.k l.days))
