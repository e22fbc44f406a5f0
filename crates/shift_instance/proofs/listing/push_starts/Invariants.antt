use Rattle.shift_instance.proofs.Common.{◌≡◌, ◌++◌, ◌-◌, range_with_len, flat_map, starting}
use Rattle.shift_instance.proofs.listing.push_starts.Given as goal

abbrev pub invariant-loop-start : goal.invariant-loop-start
invariant-loop-start l = l.shifts.items ≡ l.fn.shifts.items ++ flat_map (starting l.number l.kind) (range_with_len l.low (l.start - l.low))
