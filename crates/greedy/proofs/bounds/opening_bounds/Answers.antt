use Rattle.greedy.proofs.Common.{rules}
use Rattle.greedy.proofs.Bounding.{bounds_first}
use Rattle.greedy.proofs.bounds.opening_bounds.Goals as goal

pub returns : goal.returns
returns c = bounds_first c.args.instance.now _ c.in_ok-bounds.bounds.items c.shifts.ensures.valid c.shifts.ensures.count (search rules)
