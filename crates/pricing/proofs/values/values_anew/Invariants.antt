use Rattle.pricing.proofs.Common.{◌≡◌, ◌≤◌, ◌+◌, length, take, nat_le, count_by, AreValues}
use Rattle.pricing.proofs.values.values_anew.Given as goal

abbrev pub invariant-loop-k : goal.invariant-loop-k
invariant-loop-k g l = record {
  many : length l.values.items ≡ l.k;
  known : AreValues l.rule l.len l.sums l.graph l.k l.values.items;
  steps : l.steps ≤ l.fn.steps + count_by (λ n. nat_le n.spot.offset l.last) (take l.k l.graph);
}
