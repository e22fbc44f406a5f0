use Rattle.job_pieces.proofs.Collected.{Taken}
use Rattle.job_pieces.proofs.results.all_of.Given as goal

abbrev pub invariant-loop-slot : goal.invariant-loop-slot
invariant-loop-slot g l = Taken l.fn.slots.items l.yielded l.slot-iterator.rest.items l.all.items
