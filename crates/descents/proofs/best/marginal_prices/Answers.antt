use Rattle.descents.proofs.Common.{◌∙◌, ap, arith, rules, cover, rota_of, prices_small}
use Rattle.greedy.proofs.Places.{prices_more, prices_all}
use Rattle.descents.proofs.best.marginal_prices.Goals as goal

pub loop-t-preserved : goal.loop-t-preserved
loop-t-preserved c =
    let duties = rota_of c.args.draft.now.rows in
    prices_more c.args.instance.now duties c.loop-t.t c.working.result c.loop-t.prices.items c.push.new.self.items c.marginal_price.result
    c.loop-t.invariant (search rules) c.marginal_price.ensures (c.working.ensures ∙ ap (λ i. cover i duties c.loop-t.t) c.requires)

pub returns-clause-prices : goal.returns-clause-prices
returns-clause-prices c = prices_all c.args.instance.now (rota_of c.args.draft.now.rows) c.loop-t.t c.loop-t.prices.items c.loop-t.invariant (omega (arith, c.slots-t-end.ensures.slots))

pub returns-clause-small : goal.returns-clause-small
returns-clause-small c =
    prices_small c.args.instance.now (rota_of c.args.draft.now.rows) c.loop-t.prices.items c.slots-t-end.ensures.valid
    (prices_all c.args.instance.now (rota_of c.args.draft.now.rows) c.loop-t.t c.loop-t.prices.items c.loop-t.invariant (omega (arith, c.slots-t-end.ensures.slots)))
