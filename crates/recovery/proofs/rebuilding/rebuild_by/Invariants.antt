use Rattle.recovery.proofs.Common.{◌-◌, length}
use Rattle.recovery.proofs.Folds.{FrontMade}
use Rattle.recovery.proofs.rebuilding.rebuild_by.Given as goal

abbrev pub invariant-parts : goal.invariant-parts
invariant-parts g l = FrontMade l.width l.instance l.records l.from l.front.state l.front.tree

abbrev pub decreases-parts : goal.decreases-parts
decreases-parts g l = length l.records - l.from
