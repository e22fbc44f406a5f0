use Rattle.cert_check.proofs.Common.{◌≡◌, map, take}
use Rattle.cert_check.proofs.nodes.stops_with_nodes.Given as goal

abbrev pub invariant-loop-edge : goal.invariant-loop-edge
invariant-loop-edge l = l.ways.items ≡ map (λ e. (e.stop, e.next)) (take l.edge-index l.edges)
