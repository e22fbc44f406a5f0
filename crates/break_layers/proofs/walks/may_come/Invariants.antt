use Rattle.break_layers.proofs.Common.{◌≡◌, ◌++◌, nexts_of, Has}
use Rattle.break_layers.proofs.walks.may_come.Given as goal

abbrev pub invariant-loop-next : goal.invariant-loop-next
invariant-loop-next l = record {
  can_next : (goal.iterator-loop-next).can_next l.next-iterator;
  is_finite : (goal.iterator-loop-next).is_finite l.next-iterator;
  whole : l.yielded ++ l.next-iterator ≡ nexts_of l.rule l.len l.fn.spot;
  others : Has l.yielded l.fn.stop → ⊥;
}
