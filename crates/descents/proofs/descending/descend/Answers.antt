use Rattle.descents.proofs.Common.{inl, arith}
use Rattle.descents.proofs.Tries.{still_optimum}
use Rattle.descents.proofs.descending.descend.Goals as goal

pub returns-then-left-before-clause-optimum : goal.returns-then-left-before-clause-optimum
returns-then-left-before-clause-optimum c = inl (still_optimum c.args.instance.now c.loop-left.draft c.improve_all.new.draft (c.in_ok-improve_all.ensures.none (omega arith) (omega arith)))
