use Rattle.std.proofs.Common.{◌≡◌, ◌≤◌, ◌-◌, All, None, length}
use Rattle.job_pieces.proofs.results.no_results.Given as goal

abbrev pub invariant-loop-slots : goal.invariant-loop-slots
invariant-loop-slots g l = record {
  within : length l.slots.items ≤ l.count;
  none : All (λ slot. slot ≡ None) l.slots.items;
}

abbrev pub decreases-loop-slots : goal.decreases-loop-slots
decreases-loop-slots g l = l.count - length l.slots.items
