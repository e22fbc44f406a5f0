use Rattle.dual_bound.proofs.Common.{◌≡◌, take}
use Rattle.dual_bound.proofs.day_tables.are_same.Given as goal

abbrev pub invariant-loop-k : goal.invariant-loop-k
invariant-loop-k l = take l.k l.kept ≡ take l.k l.entries
