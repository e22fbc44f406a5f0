use Rattle.instance_warnings.proofs.Common.{ℕ, ◌<◌}
use Rattle.instance_warnings.proofs.Reached.{IsApart}
use Rattle.instance_warnings.proofs.reaching.lies_within.Given as goal

abbrev pub invariant-loop-offset : goal.invariant-loop-offset
invariant-loop-offset l = (k : ℕ) → k < l.offset → IsApart l.instance l.t l.shift l.day k
