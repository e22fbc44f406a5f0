use Rattle.dual_bound.proofs.Common.{AreTablesBelow}
use Rattle.dual_bound.proofs.day_tables.kept_tables.Given as goal

abbrev pub invariant-loop-shift : goal.invariant-loop-shift
invariant-loop-shift g l = AreTablesBelow l.instance l.cuts l.prices l.shift l.all.items
