use Rattle.plan_base.proofs.Common.{◌+◌, ◌-◌, ◌<◌, ◌≤◌, length, Consumes}
use Rattle.plan_base.proofs.reading.read_all.Given as goal

abbrev pub invariant-turns : goal.invariant-turns
invariant-turns g l = record {
  told : Consumes (g.S.Source.left l.fn.source) (g.S.Source.left l.source) l.bytes.items;
  size : length l.bytes.items ≤ l.limit;
  room : 0 < length l.piece;
  faults : g.S.Source.faults l.fn.source ≤ g.S.Source.faults l.source;
  reads : g.S.Source.calls l.source ≤ g.S.Source.calls l.fn.source + length l.bytes.items;
}

abbrev pub decreases-turns : goal.decreases-turns
decreases-turns g l = l.limit + 1 - length l.bytes.items
