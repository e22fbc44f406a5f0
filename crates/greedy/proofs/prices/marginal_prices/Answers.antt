use Rattle.greedy.proofs.Common.{◌∙◌, ap, arith, rules, cover}
use Rattle.greedy.proofs.Places.{prices_more, prices_all}
use Rattle.greedy.proofs.prices.marginal_prices.Goals as goal

pub loop-t-preserved : goal.loop-t-preserved
loop-t-preserved c =
    let duties = c.args.cover.now.duties in
    prices_more c.args.instance.now duties c.loop-t.t c.working.result c.loop-t.prices.items c.push.new.self.items c.marginal_price.result
    c.loop-t.invariant (search rules) c.marginal_price.ensures (c.working.ensures ∙ ap (λ i. cover i duties c.loop-t.t) c.requires)

pub returns : goal.returns
returns c = prices_all c.args.instance.now c.args.cover.now.duties c.loop-t.t c.loop-t.prices.items c.loop-t.invariant (omega (arith, c.slots-t-end.ensures.slots))
