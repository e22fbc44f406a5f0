use Rattle.cert_check.proofs.Common.{◌≡◌, cond, fold, min, take, sym, ap, ◌∙◌, take_all, TOP, least_floor, KeptNode}
use Rattle.cert_check.proofs.KeptNodes.{least_is}
use Rattle.cert_check.proofs.tree.Tree.least_floor.Goals as goal

pub returns : goal.returns
returns c =
    let items = c.self.inside.kept.items in
    let value : c.deref-node-items.result.now ≡ items = c.deref-node-items.ensures.value in
    let all : take c.loop-node.node-index c.deref-node-items.result.now ≡ items = take_all c.loop-node.node-index c.deref-node-items.result.now c.loop-node-test.false ∙ value in
    c.loop-node.invariant ∙ ap (fold (λ f (n : KeptNode). cond n.split f (min f n.floor)) TOP) all ∙ sym (least_is items) ∙ ap least_floor c.self.view_is
