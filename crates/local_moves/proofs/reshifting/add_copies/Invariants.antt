use Rattle.local_moves.proofs.Common.{◌≡◌, ◌++◌, replicate, duty_of}
use Rattle.local_moves.proofs.reshifting.add_copies.Given as goal

abbrev pub invariant-loop : goal.invariant-loop
invariant-loop l = l.duties.items ≡ l.fn.duties.items ++ replicate l.counter (duty_of l.row)
