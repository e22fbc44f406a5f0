use Rattle.cert_check.proofs.Common.{◌≡◌, map, take}
use Rattle.cert_check.proofs.layers.stops_with_spots.Given as goal

abbrev pub invariant-loop-way : goal.invariant-loop-way
invariant-loop-way l = l.pairs.items ≡ map (λ w. (w.stop, w.spot)) (take l.way-index l.ways)
