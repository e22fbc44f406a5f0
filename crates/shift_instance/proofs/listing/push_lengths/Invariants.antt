use Rattle.shift_instance.proofs.Common.{◌≡◌, ◌++◌, ◌-◌, map, range_with_len, shift_at}
use Rattle.shift_instance.proofs.listing.push_lengths.Given as goal

abbrev pub invariant-loop-len : goal.invariant-loop-len
invariant-loop-len l = l.shifts.items ≡ l.fn.shifts.items ++ map (shift_at l.number l.start) (range_with_len l.low (l.len - l.low))
