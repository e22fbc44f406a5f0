use Rattle.dual_bound.proofs.Common.{◌≡◌, ◌++◌, zip, entries_of, pairs_from}
use Rattle.dual_bound.proofs.best_lists.entries.Given as goal

abbrev pub invariant-loop-k : goal.invariant-loop-k
invariant-loop-k l = l.entries.items ++ entries_of (pairs_from l.cuts l.prices l.k) l.shift l.day ≡ entries_of (zip l.cuts l.prices) l.shift l.day
