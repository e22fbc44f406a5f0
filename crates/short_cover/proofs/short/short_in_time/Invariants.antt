use Rattle.short_cover.proofs.Common.{◌≡◌, filter, map, below, is_short, short_slot}
use Rattle.short_cover.proofs.short.short_in_time.Given as goal

abbrev pub invariant-loop-t : goal.invariant-loop-t
invariant-loop-t l = l.found.items ≡ filter is_short (map (short_slot l.instance l.attendance.duties) (below l.t))
