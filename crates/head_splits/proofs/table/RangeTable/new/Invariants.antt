use Rattle.head_splits.proofs.Common.{take, AreRanges}
use Rattle.head_splits.proofs.table.RangeTable.new.Given as goal

abbrev pub invariant-loop-cut : goal.invariant-loop-cut
invariant-loop-cut l = AreRanges l.instance (take l.cut-index l.cuts) l.table
