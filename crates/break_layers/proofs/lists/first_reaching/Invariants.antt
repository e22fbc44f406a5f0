use Rattle.break_layers.proofs.Common.{◌≡◌, ◌++◌, List, IsTrue, Break, nexts_of, spot_of, is_walk}
use Rattle.break_layers.proofs.Following.{ReachOthers}
use Rattle.break_layers.proofs.lists.first_reaching.Given as goal

abbrev pub invariant-loop-next : goal.invariant-loop-next
invariant-loop-next l = record {
  can_next : (goal.iterator-loop-next).can_next l.next-iterator;
  is_finite : (goal.iterator-loop-next).is_finite l.next-iterator;
  whole : l.yielded ++ l.next-iterator ≡ nexts_of l.rule l.len l.fn.spot;
  others : (list : List Break) → IsTrue (is_walk l.rule l.len list) → l.fn.spot ≡ spot_of l.rule list → ReachOthers l.rule l.len l.sums list l.whole l.yielded;
}
