use Rattle.dual_bound.proofs.BestLists.{values_of}
use Rattle.dual_bound.proofs.terms.best_value.Goals as goal

pub returns : goal.returns
returns c = values_of c.args.instance.now c.args.cuts.now c.args.prices.now c.args.shift c.args.day c.in_ok-found.found c.value_of.result _ c.in_ok-found.ensures.best c.value_of.ensures
