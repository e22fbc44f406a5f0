use Rattle.carried_rows.proofs.Common.{◌≡◌, ◌-◌, find, range_with_len, is_like, like_of}
use Rattle.carried_rows.proofs.carrying.like_of.Given as goal

abbrev pub invariant-loop-before : goal.invariant-loop-before
invariant-loop-before l = find (λ s. is_like l.old l.new s l.shift) (range_with_len l.before (l.count - l.before)) ≡ like_of l.old l.new l.shift
