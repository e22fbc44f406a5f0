use Rattle.instance_warnings.proofs.Common.{◌≡◌, ℕ, ◌<◌, false, has_lists, with_total}
use Rattle.instance_warnings.proofs.breaks.has_lists_of_total.Given as goal

abbrev pub invariant-loop-total : goal.invariant-loop-total
invariant-loop-total l = (k : ℕ) → k < l.total → has_lists l.kind (with_total l.kind.rule k) ≡ false
