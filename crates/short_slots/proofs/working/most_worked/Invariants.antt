use Rattle.short_slots.proofs.Ones.{IsMostBelow}
use Rattle.short_slots.proofs.working.most_worked.Given as goal

abbrev pub invariant-loop-shift : goal.invariant-loop-shift
invariant-loop-shift l = IsMostBelow l.instance l.shift l.most
