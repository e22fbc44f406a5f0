use Rattle.head_splits.proofs.Common.{◌≡◌, ◌≤◌, ◌-◌, length, take}
use Rattle.head_splits.proofs.differing.first_difference.Given as goal

abbrev pub invariant-loop-at : goal.invariant-loop-at
invariant-loop-at l = (take l.at l.cuts ≡ take l.at l.others) × (l.at ≤ length l.cuts) × (l.at ≤ length l.others)

abbrev pub decreases-loop-at : goal.decreases-loop-at
decreases-loop-at l = length l.cuts - l.at
