use Rattle.pricing.proofs.Common.{Rule, Shift, IsShiftOf, IsLastChange}
use Rattle.pricing.proofs.anew.last_change.Given as goal

abbrev pub invariant-loop-offset : goal.invariant-loop-offset
invariant-loop-offset l = (x : Shift × Rule) → IsShiftOf l.instance l.shift x → IsLastChange l.instance x.0 l.day l.old l.new l.offset l.last
