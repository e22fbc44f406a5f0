use Rattle.open_nodes.proofs.Common.{◌≡◌, ◌<◌, ap, sym, ◌∙◌, refl, subst, arith, length, heap_items, slice_get, OpenView, Rises}
use Rattle.open_nodes.proofs.Heaps.{order_rises, peeked_first}
use Rattle.open_nodes.proofs.nodes.OpenNodes.first.Goals as goal

pub returns-in-Some-clause-first : goal.returns-in-Some-clause-first
returns-in-Some-clause-first c =
    let k = c.self.invariant in
    let h = c.in-Some.ensures in
    let some = h.variant.0 refl in
    let counted = c.self.inside.heap.data.ok.0 in
    sym (peeked_first c.in-Some.first.now (heap_items c.self.inside.heap) (omega (arith, some, counted)) h.lookup k.once (h.greatest k.heap)) ∙ ap (λ (v : OpenView). slice_get v.entries 0) c.self.view_is

pub returns-in-Some-clause-rises : goal.returns-in-Some-clause-rises
returns-in-Some-clause-rises c = subst (λ (v : OpenView). Rises v.entries) c.self.view_is (order_rises (heap_items c.self.inside.heap))
