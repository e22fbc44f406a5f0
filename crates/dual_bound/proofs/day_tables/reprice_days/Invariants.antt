use Rattle.dual_bound.proofs.Common.{◌≡◌, map, All, AllWithin, IsKept, IsAt, place_of}
use Rattle.dual_bound.proofs.day_tables.reprice_days.Given as goal

abbrev pub invariant-loop-day : goal.invariant-loop-day
invariant-loop-day g l = (map place_of l.days ≡ map place_of l.initial.days) × All (IsKept l.instance) l.days × AllWithin (IsAt l.cuts l.prices) l.days 0 l.day-index
