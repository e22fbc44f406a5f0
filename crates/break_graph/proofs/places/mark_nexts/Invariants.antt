use Rattle.break_graph.proofs.Common.{◌≡◌, ℕ, ◌++◌, List, [], ◌∷◌, true, false, length, slice_index_or, Break, nexts_of, spot_of, is_walk, Has, IsMarked, AreReached}
use Rattle.break_graph.proofs.places.mark_nexts.Given as goal

abbrev pub invariant-loop-next : goal.invariant-loop-next
invariant-loop-next l = record {
  can_next : (goal.iterator-loop-next).can_next l.next-iterator;
  is_finite : (goal.iterator-loop-next).is_finite l.next-iterator;
  whole : l.yielded ++ l.next-iterator ≡ nexts_of l.rule l.len l.fn.spot;
  many : length l.table.items ≡ length l.fn.table.items;
  kept : (other : ℕ) → slice_index_or l.fn.table.items other false ≡ true → slice_index_or l.table.items other false ≡ true;
  marked : (list : List Break) (b : Break) → l.fn.spot ≡ spot_of l.rule list → is_walk l.rule l.len (list ++ b ∷ []) ≡ true → Has l.yielded b → IsMarked l.rule l.len l.table.items (list ++ b ∷ []);
  reached : (list : List Break) → l.fn.spot ≡ spot_of l.rule list → is_walk l.rule l.len list ≡ true → AreReached l.rule l.len l.fn.table.items → AreReached l.rule l.len l.table.items;
}
