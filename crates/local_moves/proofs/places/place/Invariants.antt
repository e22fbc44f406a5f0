use Rattle.local_moves.proofs.Common.{ℕ, ◌-◌, ◌≤◌, length, AreBefore, IsNotBefore}
use Rattle.local_moves.proofs.places.place.Given as goal

abbrev pub invariant-loop-low : goal.invariant-loop-low
invariant-loop-low l = record {
  ordered : l.low ≤ l.high;
  within : l.high ≤ length l.rows;
  before : AreBefore l.rows l.duty l.low;
  stops : IsNotBefore l.rows l.duty l.high;
}

abbrev pub decreases-loop-low : goal.decreases-loop-low
decreases-loop-low l = l.high - l.low
