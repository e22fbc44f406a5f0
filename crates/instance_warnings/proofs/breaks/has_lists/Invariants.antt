use Rattle.instance_warnings.proofs.Common.{◌≡◌, ℕ, ◌<◌, ◌≤◌, false, [], is_live}
use Rattle.instance_warnings.proofs.breaks.has_lists.Given as goal

abbrev pub invariant-loop-len : goal.invariant-loop-len
invariant-loop-len l = (k : ℕ) → l.low ≤ k → k < l.len → is_live l.rule k [] ≡ false
