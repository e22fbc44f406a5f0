use Rattle.std.proofs.Common.{◌≡◌, ◌+◌, ◌-◌, ◌≤◌}
use Rattle.best_cell.specs.Told.{last_of}
use Rattle.lock_tests.proofs.best_costs.tell_all.Given as goal

abbrev pub invariant-loop-posts : goal.invariant-loop-posts
invariant-loop-posts g l = record {
  last : last_of l.teller ≡ (l.posts - 1, 2001 - l.posts);
  some : 1 ≤ l.posts;
}
