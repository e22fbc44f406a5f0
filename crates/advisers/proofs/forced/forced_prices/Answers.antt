use Rattle.advisers.proofs.Common.{◌∙◌, ap, arith, rules, cover, Duty}
use Rattle.std.specs.Prelude.{List}
use Rattle.advisers.proofs.Forcing.{prices_more, prices_are}
use Rattle.advisers.proofs.forced.forced_prices.Goals as goal

pub loop-t-preserved : goal.loop-t-preserved
loop-t-preserved c =
    let i = c.args.instance.now in
    prices_more i c.args.cuts.now c.loop-t.t c.working.result c.loop-t.prices.items c.push.new.self.items c.balance_price.result
    c.loop-t.invariant (search rules) c.balance_price.ensures
    (c.working.ensures ∙ ap (λ j. cover j c.in_ok-cover.cover.duties c.loop-t.t) c.in_ok-cover.ensures.instance ∙ ap (λ (l : List Duty). cover i l c.loop-t.t) c.in_ok-cover.ensures.duties)

pub returns : goal.returns
returns c = prices_are c.args.instance.now c.args.cuts.now c.loop-t.t c.loop-t.prices.items c.loop-t.invariant (omega (arith, c.slots-t-end.ensures.slots))
