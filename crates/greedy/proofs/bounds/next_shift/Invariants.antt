use Rattle.greedy.proofs.Common.{AreBounds, KeepsEach}
use Rattle.greedy.proofs.Bounding.{all_above_zero}
use Rattle.greedy.proofs.bounds.next_shift.Given as goal

abbrev pub invariant-looks : goal.invariant-looks
invariant-looks g l = record {
  bounds : AreBounds l.instance l.draft.cover.duties l.bounds.items;
  known : KeepsEach l.instance l.sums.prices l.known;
}

abbrev pub decreases-looks : goal.decreases-looks
decreases-looks g l = all_above_zero l.bounds.items
