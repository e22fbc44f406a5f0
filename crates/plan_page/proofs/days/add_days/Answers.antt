use Rattle.plan_page.proofs.Common.{◌++◌, Bor, List, ℕ, get_or, map, ap, ◌∙◌, string_bytes, Row, DaySummary, numbered_more, day_section}
use Rattle.plan_page.proofs.days.add_days.Goals as goal

pub loop-k-preserved : goal.loop-k-preserved
loop-k-preserved c =
    let days = c.args.days.now in
    let k = c.loop-k.k in
    let d : DaySummary = record { duties = 0; totals = record { wanted = 0; wanted_max = 0; worked = 0; over = 0; under = 0 } } in
    let piece : ℕ × DaySummary → List ℕ = day_section c.args.instance.now c.args.attendance.now.duties (map (λ (r : Bor Row). r.now) c.args.rows.now) c.args.names.now in
    c.in_ok-add_day.ensures
    ∙ ap (λ (page : List ℕ). page ++ piece (k, get_or days k d)) c.loop-k.invariant
    ∙ numbered_more piece (string_bytes c.args.page.now) days k d c.loop-k-test.true
