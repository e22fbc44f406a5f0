use Rattle.dual_bound.proofs.Causes.{passes, faultless}
use Rattle.dual_bound.proofs.laws.faultless_prices.Goals as goal

pub returns : goal.returns
returns c i cuts prices = (passes i cuts prices, faultless i cuts prices)
