use Rattle.pricing.proofs.Common.{reach_of, AreFit}
use Rattle.pricing.proofs.Most.{IsMostBefore}
use Rattle.pricing.proofs.values.most_reached.Given as goal

abbrev pub invariant-loop-edge : goal.invariant-loop-edge
invariant-loop-edge l = record { most : AreFit (reach_of l.sums l.values) l.edges → IsMostBefore (reach_of l.sums l.values) l.edges l.edge-index l.most }
