use Rattle.dual_bound.proofs.Causes.{passes}
use Rattle.dual_bound.proofs.pricer.Pricer.reprice.Goals as goal

pub next_bests-requires-clause-passes : goal.next_bests-requires-clause-passes
next_bests-requires-clause-passes g c = passes c.args.instance.now c.self.inside.cuts c.args.prices c.in_ok-judge.ensures.fault
