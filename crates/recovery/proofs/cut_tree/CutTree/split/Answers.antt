use Rattle.recovery.proofs.Common.{◌≡◌, ◌∙◌, ◌<◌, List, length, ap, arith, sym, Class, Cut, Division, nodes_in, divided}
use Rattle.recovery.proofs.Copies.{same_class, same_items}
use Rattle.recovery.proofs.CutTrees.{divided_is, older_after}
use Rattle.recovery.proofs.cut_tree.CutTree.split.Goals as goal

pub invariant_of-self-2 : goal.invariant_of-self-2
invariant_of-self-2 c =
    let ds = c.self.inside.divisions.items in
    let d : Division = record { node = c.args.node; class = c.in_ok-class.class; m = c.args.m } in
    let there : c.args.node < length (nodes_in ds) = omega (arith, c.len.ensures, ap (λ (l : List (List Cut)). length l) c.self.view_is) in
    let small : c.args.m < 65535 = omega arith in
    older_after ds c.push.new.self.items d c.in_ok-push.ensures.items there small c.self.invariant

pub returns : goal.returns
returns c =
    let ds = c.self.inside.divisions.items in
    let d : Division = record { node = c.args.node; class = c.in_ok-class.class; m = c.args.m } in
    let there : c.args.node < length (nodes_in ds) = omega (arith, c.len.ensures, ap (λ (l : List (List Cut)). length l) c.self.view_is) in
    let small : c.args.m < 65535 = omega arith in
    let h = c.in_ok-class.ensures.cases in
    let same : c.in_ok-class.class ≡ c.args.class.now =
    same_class c.in_ok-class.class c.args.class.now h.0 h.1.0 (sym h.1.1.3 ∙ same_items h.1.1.0.list.items h.1.1.1.list.items h.1.1.4.0 ∙ h.1.1.2) in
    divided_is ds c.push.new.self.items d c.in_ok-push.ensures.items there small
    ∙ ap (λ (l : List (List Cut)). divided l c.args.node c.in_ok-class.class c.args.m) c.self.view_is
    ∙ ap (λ (k : Class). divided c.args.self.now c.args.node k c.args.m) same
