use Rattle.advisers.proofs.PriceSizes.{in_range_is}
use Rattle.advisers.proofs.stepping.in_range.Goals as goal

pub returns : goal.returns
returns c =
    in_range_is c.args.q c.args.excess c.args.shortage c.args.price c.from-q.result c.from.result c.from-2.result c.clamp.result c.ranges.q.fits c.ranges.excess.fits c.ranges.shortage.fits c.ranges.price c.from-q.ensures c.from.ensures c.from-2.ensures
    c.clamp.ensures.value
