use Rattle.plan_page.proofs.Common.{ℕ, ◌++◌, ap, ◌∙◌, string_bytes, joined, joined_last, chart, day_pictures}
use Rattle.plan_page.proofs.days.add_pictures.Goals as goal

pub returns : goal.returns
unfolding day_pictures
returns c =
    let i = c.args.instance.now in
    let rota = c.args.attendance.now.duties in
    let old = string_bytes c.args.page.now in
    let one = c.in_ok-add_chart.ensures ∙ ap (λ (most : ℕ). old ++ chart i rota most c.args.first c.args.banded) c.requires.most in
    let two = joined old _ _ one c.in_ok-add_bars.ensures in
    joined_last c.add_bars-2.result old _ _ (string_bytes c.add_bars-2.new.page) two c.add_bars-2.ensures
