use Rattle.shift_instance.proofs.Common.{◌≡◌, ◌++◌, drop, enumerate_from, flat_map, shifts_of}
use Rattle.shift_instance.proofs.listing.list_shifts.Given as goal

abbrev pub invariant-loop-k : goal.invariant-loop-k
invariant-loop-k l = l.shifts.items ++ flat_map shifts_of (enumerate_from l.k (drop l.k l.kinds)) ≡ flat_map shifts_of (enumerate_from 0 l.kinds)
