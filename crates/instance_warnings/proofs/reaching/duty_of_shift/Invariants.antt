use Rattle.instance_warnings.proofs.Common.{ℕ, ◌<◌, AvoidsOn}
use Rattle.instance_warnings.proofs.reaching.duty_of_shift.Given as goal

abbrev pub invariant-loop-day : goal.invariant-loop-day
invariant-loop-day l = (k : ℕ) → k < l.day → AvoidsOn l.instance l.t l.shift k
