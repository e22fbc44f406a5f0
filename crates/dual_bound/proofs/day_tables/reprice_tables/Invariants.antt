use Rattle.dual_bound.proofs.Common.{AllWithin, All, AreAllKept, IsAt}
use Rattle.dual_bound.proofs.day_tables.reprice_tables.Given as goal

abbrev pub invariant-loop-days : goal.invariant-loop-days
invariant-loop-days g l = AreAllKept l.instance l.all × AllWithin (λ tables. All (IsAt l.cuts l.prices) tables.items) l.all 0 l.days-index
