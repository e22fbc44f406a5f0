use Rattle.dual_bound.proofs.Common.{All, AreKept, IsAt}
use Rattle.dual_bound.proofs.day_tables.shift_tables.Given as goal

abbrev pub invariant-loop-day : goal.invariant-loop-day
invariant-loop-day g l = AreKept l.instance l.shift l.day l.tables.items × All (IsAt l.cuts l.prices) l.tables.items
