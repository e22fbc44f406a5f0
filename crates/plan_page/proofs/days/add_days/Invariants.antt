use Rattle.plan_page.proofs.Common.{◌≡◌, ◌++◌, map, take, string_bytes, enumerate_from, flat_map, day_section}
use Rattle.plan_page.proofs.days.add_days.Given as goal

abbrev pub invariant-loop-k : goal.invariant-loop-k
invariant-loop-k l =
    string_bytes l.page ≡ string_bytes l.fn.page ++ flat_map (day_section l.instance l.attendance.duties (map (λ r. r.now) l.rows) l.names) (enumerate_from 0 (take l.k l.days))
