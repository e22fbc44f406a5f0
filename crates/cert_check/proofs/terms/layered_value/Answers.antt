use Rattle.cert_check.proofs.Common.{[], ℤ, List, ◌∙◌, ap, sums_on}
use Rattle.cert_check.proofs.WaysOn.{opening_spot}
use Rattle.cert_check.proofs.terms.layered_value.Goals as goal

pub best_below-requires-clause-stands : goal.best_below-requires-clause-stands
best_below-requires-clause-stands c =
    let rule = c.args.work.now.rule.now in
    let len = c.args.work.now.len in
    let sums = sums_on c.args.duties.now.day c.args.work.now.sums.now in
    opening_spot c.in_ok-layers.layers rule len sums c.opening-opening.result c.value_at.result
    (c.in_ok-layers.ensures ∙ ap (λ (xs : List ℤ). record { rule = rule; len = len; sums = xs }) c.in_ok-sums.ensures) (c.opening-opening.ensures rule) (c.value_at.ensures []) c.if-is_none.ensures
