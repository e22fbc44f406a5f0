use Rattle.pricing.proofs.Common.{map, take, IsBestEdge}
use Rattle.pricing.proofs.rests.BestRests.best_edge.Given as goal

abbrev pub invariant-loop-edge : goal.invariant-loop-edge
invariant-loop-edge l = record { best : IsBestEdge l.self l.named l.front (map (λ e. e.stop) (take l.edge-index l.edge-items)) l.best }
