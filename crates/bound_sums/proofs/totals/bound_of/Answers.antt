use Rattle.bound_sums.proofs.Common.{priced}
use Rattle.bound_sums.proofs.totals.bound_of.Goals as goal

pub rounded-requires-clause-scale : goal.rounded-requires-clause-scale
rounded-requires-clause-scale c = (priced c.args.instance.now c.args.cuts.now c.args.prices.now c.requires.passes).scale
