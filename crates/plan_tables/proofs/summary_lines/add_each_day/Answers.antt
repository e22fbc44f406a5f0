use Rattle.plan_tables.proofs.Common.{◌++◌, List, ℕ, get_or, ap, ◌∙◌, string_bytes, DaySummary, day_line}
use Rattle.plan_tables.proofs.Numbered.{numbered_more}
use Rattle.plan_tables.proofs.summary_lines.add_each_day.Goals as goal

pub loop-k-preserved : goal.loop-k-preserved
loop-k-preserved c =
    let i = c.args.instance.now in
    let days = c.args.days.now in
    let k = c.loop-k.k in
    let d : DaySummary = record { duties = 0; totals = record { wanted = 0; wanted_max = 0; worked = 0; over = 0; under = 0 } } in
    c.in_ok-add_day.ensures
    ∙ ap (λ (text : List ℕ). text ++ day_line i c.args.width (k, get_or days k d)) c.loop-k.invariant
    ∙ numbered_more (day_line i c.args.width) (string_bytes c.args.text.now) days k d c.loop-k-test.true
