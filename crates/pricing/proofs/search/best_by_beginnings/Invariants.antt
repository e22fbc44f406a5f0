use Rattle.pricing.proofs.Common.{ℕ, ◌<◌, ◌≤◌, ◌+◌, [], get_or, IsFound, CoversFrom}
use Rattle.pricing.proofs.search.best_by_beginnings.Given as goal

abbrev pub invariant-loop-front : goal.invariant-loop-front
invariant-loop-front g l = record {
  found : IsFound (g.R.Rests.priced l.rests) l.trie.entries l.best;
  start : CoversFrom (g.R.Rests.priced l.rests) l.trie.entries l.best [];
  along : (j : ℕ) → j < l.front-index → CoversFrom (g.R.Rests.priced l.rests) l.trie.entries l.best (get_or l.beginnings j []);
  steps : l.steps ≤ l.fn.steps + l.front-index;
}
