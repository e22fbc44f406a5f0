use Rattle.pricing.proofs.Layered.{most_at_opening}
use Rattle.pricing.proofs.layered_days.most_of_lists.Goals as goal

pub returns : goal.returns
returns c =
    most_at_opening c.in_ok-values.values c.args.rule.now c.args.len c.args.sums.items c.opening.result c.value_at.result c.in_ok-values.ensures (c.opening.ensures c.args.rule.now) c.value_at.ensures
