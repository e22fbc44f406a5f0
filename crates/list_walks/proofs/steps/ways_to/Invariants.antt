use Rattle.std.proofs.Common.{◌≡◌, map, take}
use Rattle.list_walks.specs.Steps.{way_to}
use Rattle.list_walks.proofs.steps.ways_to.Given as goal

abbrev pub invariant-loop-way : goal.invariant-loop-way
invariant-loop-way l = l.ways.items ≡ map way_to (take l.way-index l.found)
