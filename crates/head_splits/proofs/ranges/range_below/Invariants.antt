use Rattle.head_splits.proofs.Common.{◌≡◌, take, low, least_high, class_of}
use Rattle.head_splits.proofs.ranges.range_below.Given as goal

abbrev pub invariant-loop-cut : goal.invariant-loop-cut
invariant-loop-cut l = record {
  low : l.low ≡ low (take l.cut-index l.cuts) (class_of l.shift l.day l.prefix);
  high : l.high ≡ least_high l.heads (take l.cut-index l.cuts) (class_of l.shift l.day l.prefix);
}
