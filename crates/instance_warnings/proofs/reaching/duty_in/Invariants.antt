use Rattle.instance_warnings.proofs.Common.{ℕ, ◌<◌, AvoidsShift}
use Rattle.instance_warnings.proofs.reaching.duty_in.Given as goal

abbrev pub invariant-loop-shift : goal.invariant-loop-shift
invariant-loop-shift l = (k : ℕ) → k < l.shift → AvoidsShift l.instance l.t k
