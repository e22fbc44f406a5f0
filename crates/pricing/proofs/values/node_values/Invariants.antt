use Rattle.pricing.proofs.Common.{◌≡◌, length, AreValues}
use Rattle.pricing.proofs.values.node_values.Given as goal

abbrev pub invariant-loop-k : goal.invariant-loop-k
invariant-loop-k l = record {
  many : length l.values.items ≡ l.k;
  known : AreValues l.rule l.len l.sums l.graph l.k l.values.items;
}
