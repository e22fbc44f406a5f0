use Rattle.open_nodes.proofs.Common.{◌≡◌, ◌+◌, ◌-◌, ◌≤◌, ap, sym, ◌∙◌, length, arith, rules, nat_lt, heap_items, filter, Entry, OpenView}
use Rattle.std.proofs.lemmas.Fn.{filter_same}
use Rattle.open_nodes.proofs.Heaps.{kept_once, kept_order}
use Rattle.open_nodes.proofs.nodes.OpenNodes.drop_from.Goals as goal

pub invariant_of-self : goal.invariant_of-self
invariant_of-self c =
    let k = c.self.invariant in
    let f = c.retain.ensures.filtered in
    let kept = filter_same _ (λ x. nat_lt x.0.0 c.args.floor) _ (λ x r f' k. search rules) _ _ f.1 in
    record {
      heap = c.retain.ensures.heap_order;
      room = omega (arith, k.room, c.retain.ensures.capacity, c.retain.ensures.bound, c.len-before.ensures, c.len.ensures);
      once = kept_once (λ e. nat_lt e.0 c.args.floor) (heap_items c.self.inside.heap) f.0 (heap_items c.retain.new.self) kept f.2 k.once;
    }

pub returns-clause-left : goal.returns-clause-left
returns-clause-left c =
    let f = c.retain.ensures.filtered in
    let kept = filter_same _ (λ x. nat_lt x.0.0 c.args.floor) _ (λ x r f' k. search rules) _ _ f.1 in
    kept_order (λ e. nat_lt e.0 c.args.floor) (heap_items c.self.inside.heap) f.0 (heap_items c.retain.new.self) kept f.2
    ∙ ap (λ (v : OpenView). filter (λ (e : Entry). nat_lt e.0 c.args.floor) v.entries) c.self.view_is

pub returns-clause-spare : goal.returns-clause-spare
returns-clause-spare c =
    let k = c.self.invariant in
    let f = c.retain.ensures.filtered in
    let kept = filter_same _ (λ x. nat_lt x.0.0 c.args.floor) _ (λ x r f' k. search rules) _ _ f.1 in
    let once = kept_once (λ e. nat_lt e.0 c.args.floor) (heap_items c.self.inside.heap) f.0 (heap_items c.retain.new.self) kept f.2 k.once in
    let before = c.self.inside.heap.data.ok.0 in
    let after = c.retain.new.self.data.ok.0 in
    let spare = ap (λ (v : OpenView). v.spare) c.self.view_is in
    let long = ap (λ (v : OpenView). length v.entries) c.self.view_is in
    omega (arith, once, k.once, before, after, spare, long, c.retain.ensures.bound, c.len-before.ensures, c.len.ensures)
