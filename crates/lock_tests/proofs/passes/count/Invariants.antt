use Rattle.std.proofs.Common.{◌≡◌, ◌+◌, ◌≤◌}
use Rattle.lock_tests.proofs.passes.count.Given as goal

abbrev pub invariant-loop : goal.invariant-loop
invariant-loop g l = record {
  lock : l.seat.lock ≡ l.fn.seat.lock;
  left : 100 ≤ l.seat.left + l.counter;
}
