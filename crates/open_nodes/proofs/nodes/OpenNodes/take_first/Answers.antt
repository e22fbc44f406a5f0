use Rattle.open_nodes.proofs.Common.{◌≡◌, ◌+◌, ◌≤◌, ap, sym, ◌∙◌, ◌∷◌, length, arith, heap_items, OpenView}
use Rattle.open_nodes.proofs.Heaps.{popped_once, popped_order}
use Rattle.open_nodes.proofs.nodes.OpenNodes.take_first.Goals as goal

pub invariant_of-self : goal.invariant_of-self
invariant_of-self c =
    let k = c.self.invariant in
    let p = c.in-Some.ensures in
    record {
      heap = (p.heap_order k.heap).0;
      room = omega (arith, k.room, c.pop.ensures.capacity, p.len);
      once = popped_once _ (heap_items c.self.inside.heap) (heap_items c.pop.new.self) p.permutation k.once;
    }

pub returns-in-Some-clause-taken : goal.returns-in-Some-clause-taken
returns-in-Some-clause-taken c =
    let k = c.self.invariant in
    let p = c.in-Some.ensures in
    sym (ap (λ (v : OpenView). v.entries) c.self.view_is) ∙ popped_order _ (heap_items c.self.inside.heap) (heap_items c.pop.new.self) p.permutation k.once (p.below_top k.heap)
