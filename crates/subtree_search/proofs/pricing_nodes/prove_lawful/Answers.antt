use Rattle.subtree_search.proofs.Lawful.{bound_lawful, none_lawful, zero_lawful}
use Rattle.subtree_search.proofs.pricing_nodes.prove_lawful.Goals as goal

pub returns-in-Some-clause-prices : goal.returns-in-Some-clause-prices
returns-in-Some-clause-prices c =
    let b = bound_lawful c.args.instance.now c.args.cuts.now c.args.prices _ c.in-Some.proved c.in-Some.is c.in_ok-proved.ensures.proved in
    (b.0, b.1, b.2)

pub returns-in-Some-2-clause-prices : goal.returns-in-Some-2-clause-prices
returns-in-Some-2-clause-prices c =
    let i = c.args.instance.now in
    let cuts = c.args.cuts.now in
    let other = none_lawful i cuts c.args.prices c.in_ok-proved.field-0 c.in_default.is c.in_ok-proved.ensures.proved in
    let b = zero_lawful i cuts c.args.prices c.in_ok-prices.prices _ c.in-Some-2.proved other c.in_ok-prices.ensures c.in-Some-2.is c.in_ok-proved-2.ensures.proved in
    (b.0, b.1, b.2)
