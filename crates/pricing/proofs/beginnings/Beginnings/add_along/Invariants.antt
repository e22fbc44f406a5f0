use Rattle.pricing.proofs.Common.{◌⊎◌, List, Break, Has, HaveFirst, IsBeginning}
use Rattle.pricing.proofs.beginnings.Beginnings.add_along.Given as goal

abbrev pub invariant-loop-end : goal.invariant-loop-end
invariant-loop-end l = record {
  has : HaveFirst l.self l.prefix l.end;
  keeps : (other : List Break) → Has l.initial.self other → Has l.self other;
  only : (other : List Break) → Has l.self other → Has l.initial.self other ⊎ IsBeginning l.prefix other;
}
