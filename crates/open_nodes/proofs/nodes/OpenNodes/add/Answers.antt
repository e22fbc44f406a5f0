use Rattle.open_nodes.proofs.Common.{◌≡◌, ◌+◌, ◌-◌, ◌<◌, ◌≤◌, ap, sym, ◌∙◌, subst, false, length, arith, heap_items, has_node, with_entry, OpenView}
use Rattle.open_nodes.proofs.Heaps.{pushed_once, pushed_order}
use Rattle.open_nodes.proofs.nodes.OpenNodes.add.Goals as goal

pub invariant_of-self : goal.invariant_of-self
invariant_of-self c =
    let k = c.self.invariant in
    let p = c.in-Ok.ensures in
    let spare = ap (λ (v : OpenView). v.spare) c.self.view_is in
    let new = subst (λ (v : OpenView). has_node v.entries c.args.node ≡ false) (sym c.self.view_is) c.requires.new in
    record {
      heap = p.heap_order k.heap;
      room = omega (arith, k.room, c.push.ensures.capacity, p.len, spare, c.requires.room);
      once = pushed_once _ (heap_items c.self.inside.heap) (heap_items c.push.new.self) p.permutation k.once new;
    }

pub returns-clause-added : goal.returns-clause-added
returns-clause-added c = pushed_order _ (heap_items c.self.inside.heap) (heap_items c.push.new.self) c.in-Ok.ensures.permutation ∙ ap (λ (v : OpenView). with_entry (c.args.floor, c.args.node) v.entries) c.self.view_is
