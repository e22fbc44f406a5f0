use Rattle.std.proofs.Common.{◌≡◌, List, subst, ◌∙◌}
use Rattle.shift_instance.specs.declared.Row.{Row}
use Rattle.kept_duties.specs.Weighing.{WeighsNoMore}
use Rattle.kept_duties.proofs.Weights.{kept_outweigh, weighs_through}
use Rattle.kept_duties.proofs.choosing.least_changed.Goals as goal

pub returns-clause-rows : goal.returns-clause-rows
returns-clause-rows c =
    let i = c.args.instance.now in
    let wanted = c.args.wanted.now in
    let change = c.args.change in
    weighs_through i wanted change c.lighter.result c.in_ok-one.one c.args.rows c.lighter.ensures.one
    (kept_outweigh i wanted change c.in_ok-one.one c.args.rows c.in_ok-one.ensures.cheap c.in_ok-one.ensures.kept)

pub returns-clause-other : goal.returns-clause-other
returns-clause-other c = λ legal.
    let i = c.args.instance.now in
    let wanted = c.args.wanted.now in
    let change = c.args.change in
    let same : c.into_rows.result ≡ c.args.other = c.into_rows.ensures.rows ∙ c.in-Ok.ensures.ok.1 in
    subst (λ (rows : List Row). WeighsNoMore i wanted change c.lighter.result rows) same
    (weighs_through i wanted change c.lighter.result c.in_ok-other.other c.into_rows.result c.lighter.ensures.other
    (kept_outweigh i wanted change c.in_ok-other.other c.into_rows.result c.in_ok-other.ensures.cheap c.in_ok-other.ensures.kept))
