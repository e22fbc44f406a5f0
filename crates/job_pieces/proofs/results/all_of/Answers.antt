use Rattle.job_pieces.proofs.Collected.{taken_more}
use Rattle.job_pieces.proofs.results.all_of.Goals as goal

pub loop-slot-preserved : goal.loop-slot-preserved
loop-slot-preserved g c =
    taken_more _ _ _ _ _ _ _ c.in-Some-slot.output c.loop-slot.invariant c.in-Some.ensures.steps.0 c.in-Some-slot.is c.in_ok-push-in-Some-slot.ensures.items
