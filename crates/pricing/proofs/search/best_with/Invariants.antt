use Rattle.pricing.proofs.Common.{ℕ, ◌<◌, [], pos, length, get_or, IsFound, CoversFrom, CoversAlong}
use Rattle.pricing.proofs.search.best_with.Given as goal

abbrev pub invariant-loop-prefix : goal.invariant-loop-prefix
invariant-loop-prefix g l = record {
  found : IsFound (g.R.Rests.priced l.rests) l.trie.entries l.best;
  start : CoversFrom (g.R.Rests.priced l.rests) l.trie.entries l.best [];
  along : (j : ℕ) → j < l.prefix-index → CoversAlong (g.R.Rests.priced l.rests) l.trie.entries l.best (get_or l.bonus j ([], pos 0)).0 (length (get_or l.bonus j ([], pos 0)).0);
}
