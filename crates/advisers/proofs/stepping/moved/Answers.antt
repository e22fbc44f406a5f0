use Rattle.advisers.proofs.PriceSizes.{moved_is}
use Rattle.advisers.proofs.stepping.moved.Goals as goal

pub returns : goal.returns
returns c =
    moved_is c.args.price c.args.step c.args.target c.args.working c.from.result c.from-2.result c.from-3.result c.requires c.ranges.step.fits c.ranges.target.fits c.ranges.working.fits c.from.ensures c.from-2.ensures c.from-3.ensures
