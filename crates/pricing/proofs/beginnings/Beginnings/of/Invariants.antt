use Rattle.pricing.proofs.Firsts.{AreOfFirst, HaveAllFirst}
use Rattle.pricing.proofs.beginnings.Beginnings.of.Given as goal

abbrev pub invariant-loop-prefix : goal.invariant-loop-prefix
invariant-loop-prefix l = record {
  each : AreOfFirst l.bonus l.prefix-index l.beginnings;
  all : HaveAllFirst l.bonus l.prefix-index l.beginnings;
}
