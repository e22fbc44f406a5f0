use Rattle.pricing.proofs.Common.{map, take, IsBestWay}
use Rattle.pricing.proofs.layer_rests.best_way.Given as goal

abbrev pub invariant-loop-way : goal.invariant-loop-way
invariant-loop-way l = record { best : IsBestWay l.values l.named l.front (map (λ w. w.stop) (take l.way-index l.ways)) l.best }
