use Rattle.pricing.proofs.Common.{◌≡◌, take, Has, Edge, reach_of, AreFit}
use Rattle.pricing.proofs.values.first_reaching.Given as goal

abbrev pub invariant-loop-next : goal.invariant-loop-next
invariant-loop-next l = record { others : AreFit (reach_of l.sums l.values) l.edges → (e : Edge) → Has (take l.next-index l.edges) e → reach_of l.sums l.values e ≡ l.whole → ⊥ }
