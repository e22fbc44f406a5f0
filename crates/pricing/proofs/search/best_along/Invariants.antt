use Rattle.pricing.proofs.Common.{IsFound, Keeps, CoversAlong}
use Rattle.pricing.proofs.search.best_along.Given as goal

abbrev pub invariant-loop-end : goal.invariant-loop-end
invariant-loop-end g l = record {
  found : IsFound (g.R.Rests.priced l.rests) l.trie.entries l.best;
  keeps : Keeps (g.R.Rests.priced l.rests) l.trie.entries l.fn.best l.best;
  covers : CoversAlong (g.R.Rests.priced l.rests) l.trie.entries l.best l.prefix l.end;
}
