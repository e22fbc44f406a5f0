use Rattle.advisers.proofs.Common.{◌+◌, duty_of, IsMarked}
use Rattle.advisers.proofs.stepping.add_duties.Given as goal

abbrev pub invariant-loop-offset : goal.invariant-loop-offset
invariant-loop-offset l = IsMarked l.instance (duty_of l.row) (λ n. n + l.count) l.initial.counts l.counts l.offset
