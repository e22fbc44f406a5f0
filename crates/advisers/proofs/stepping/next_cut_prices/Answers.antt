use Rattle.advisers.proofs.Common.{rota_of, next_cut_price}
use Rattle.advisers.proofs.PriceSteps.{cuts_more}
use Rattle.advisers.proofs.stepping.next_cut_prices.Goals as goal

pub loop-k-preserved : goal.loop-k-preserved
loop-k-preserved c =
    cuts_more (next_cut_price c.args.step (rota_of c.args.rows.now)) c.args.cuts.now c.args.prices.now c.loop-k.k c.index-cuts-k.result _ _ _ _ c.loop-k-test.true c.requires.count c.index-cuts-k.is c.loop-k.invariant c.in_ok-push.ensures.items c.next_cut_price.ensures
