use Rattle.cert_check.proofs.Common.{◌≡◌, ◌≤◌, ◌-◌, length, take}
use Rattle.cert_check.proofs.findings.are_same_cuts.Given as goal

abbrev pub invariant-loop-at : goal.invariant-loop-at
invariant-loop-at l = (take l.at l.cuts ≡ take l.at l.others) × (l.at ≤ length l.cuts)

abbrev pub decreases-loop-at : goal.decreases-loop-at
decreases-loop-at l = length l.cuts - l.at
