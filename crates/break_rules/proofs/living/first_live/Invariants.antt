use Rattle.break_rules.proofs.Common.{◌≡◌, ◌++◌, List, [], ◌∷◌, false, IsTrue, Break, is_live, nexts_of, spot_of, is_walk, Has}
use Rattle.break_rules.proofs.living.first_live.Given as goal

abbrev pub invariant-loop-next : goal.invariant-loop-next
invariant-loop-next l = record {
  can_next : (goal.iterator-loop-next).can_next l.next-iterator;
  is_finite : (goal.iterator-loop-next).is_finite l.next-iterator;
  whole : l.yielded ++ l.next-iterator ≡ nexts_of l.rule l.len l.fn.spot;
  dead : (list : List Break) → IsTrue (is_walk l.rule l.len list) → l.fn.spot ≡ spot_of l.rule list → (b : Break) → Has l.yielded b → is_live l.rule l.len (list ++ b ∷ []) ≡ false;
}
