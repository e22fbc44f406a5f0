use Rattle.std.proofs.Common.{◌≡◌, map, take}
use Rattle.list_walks.specs.Steps.{way_along}
use Rattle.list_walks.proofs.steps.ways_along.Given as goal

abbrev pub invariant-loop-edge : goal.invariant-loop-edge
invariant-loop-edge l = l.ways.items ≡ map (way_along l.graph) (take l.edge-index l.edges)
