use Rattle.plan_page.proofs.Common.{◌++◌, List, ℕ, get_or, ap, ◌∙◌, string_bytes, DaySummary, numbered_more, day_row}
use Rattle.plan_page.proofs.overview.add_day_rows.Goals as goal

pub loop-k-preserved : goal.loop-k-preserved
loop-k-preserved c =
    let i = c.args.instance.now in
    let days = c.args.days.now in
    let k = c.loop-k.k in
    let d : DaySummary = record { duties = 0; totals = record { wanted = 0; wanted_max = 0; worked = 0; over = 0; under = 0 } } in
    c.in_ok-add_day_row.ensures
    ∙ ap (λ (page : List ℕ). page ++ day_row i (k, get_or days k d)) c.loop-k.invariant
    ∙ numbered_more (day_row i) (string_bytes c.args.page.now) days k d c.loop-k-test.true
