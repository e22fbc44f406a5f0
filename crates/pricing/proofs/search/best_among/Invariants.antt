use Rattle.pricing.proofs.Common.{◌⊎◌, List, length, Break, Has, IsLegal, IsFound, Keeps, Covers}
use Rattle.pricing.proofs.search.best_among.Given as goal

abbrev pub invariant-loop-list : goal.invariant-loop-list
invariant-loop-list g l =
    let p = g.R.Rests.priced l.rests in
    record {
      found : IsFound p l.trie.entries l.best;
      keeps : Keeps p l.trie.entries l.fn.best l.best;
      legal : (list : List Break) → Has l.lists.items list → IsLegal p list;
      covers : (list : List Break) → Has l.fn.lists.items list → Has l.lists.items list ⊎ Covers p l.trie.entries l.best list;
    }

abbrev pub decreases-loop-list : goal.decreases-loop-list
decreases-loop-list g l = length l.lists.items
