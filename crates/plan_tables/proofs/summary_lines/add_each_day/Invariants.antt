use Rattle.plan_tables.proofs.Common.{◌≡◌, ◌++◌, take, string_bytes, enumerate_from, flat_map, day_line}
use Rattle.plan_tables.proofs.summary_lines.add_each_day.Given as goal

abbrev pub invariant-loop-k : goal.invariant-loop-k
invariant-loop-k l =
    string_bytes l.text ≡ string_bytes l.fn.text ++ flat_map (day_line l.instance l.width) (enumerate_from 0 (take l.k l.days))
