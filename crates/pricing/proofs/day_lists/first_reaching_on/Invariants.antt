use Rattle.pricing.proofs.Common.{◌≡◌, take, Has, Edge, sums_on, reach_of, AreFit}
use Rattle.pricing.proofs.day_lists.first_reaching_on.Given as goal

abbrev pub invariant-loop-next : goal.invariant-loop-next
invariant-loop-next l = record {
  others : AreFit (reach_of (sums_on l.day l.sums) (sums_on l.day l.values)) l.edges → (e : Edge) → Has (take l.next-index l.edges) e → reach_of (sums_on l.day l.sums) (sums_on l.day l.values) e ≡ l.whole → ⊥;
}
