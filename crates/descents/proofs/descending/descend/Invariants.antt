use Rattle.descents.proofs.Common.{◌≡◌, ◌+◌, ◌≤◌, cost, rota_of}
use Rattle.descents.proofs.descending.descend.Given as goal

abbrev pub invariant-loop-left : goal.invariant-loop-left
invariant-loop-left l = record {
  instance : l.draft.instance ≡ l.fn.draft.instance;
  cheaper : cost l.instance (rota_of l.draft.rows) + l.rounds ≤ cost l.instance (rota_of l.fn.draft.rows) + l.left;
  down : l.left ≤ l.rounds;
}

abbrev pub decreases-loop-left : goal.decreases-loop-left
decreases-loop-left l = l.left
