use Rattle.subtree_search.proofs.Chosen.{Found}
use Rattle.subtree_search.proofs.choosing.next_open.Given as goal

abbrev pub invariant-loop-k : goal.invariant-loop-k
invariant-loop-k l = Found l.nodes l.cost l.k l.next l.floor
