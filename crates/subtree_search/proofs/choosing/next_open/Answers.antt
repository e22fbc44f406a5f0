use Rattle.subtree_search.proofs.Common.{◌≡◌, ◌∙◌, length, refl, Some, slice_get, slice_get_read}
use Rattle.subtree_search.proofs.Chosen.{chosen, passed_over, taken_over}
use Rattle.subtree_search.proofs.choosing.next_open.Goals as goal
use Rattle.subtree_search.proofs.choosing.next_open.Goals.{then-is_open, else-is_open}

pub loop-k-preserved : goal.loop-k-preserved
loop-k-preserved c =
    let nodes = c.args.nodes.now in
    let x = c.index-nodes-k.result in
    let at : slice_get nodes c.loop-k.k ≡ Some x = slice_get_read nodes (length nodes) c.loop-k.k x refl c.loop-k-test.true c.index-nodes-k.is in
    elim c.if-is_open.branch [
      | then-is_open w ↦ taken_over nodes c.args.cost c.loop-k.k c.loop-k.next c.if-is_open.next c.loop-k.floor c.if-is_open.floor x c.is_open.result c.loop-k.invariant at c.is_open.ensures w.if-is_open.true w.next-is (w.floor-is ∙ w.floor-floor.ensures)
      | else-is_open w ↦ passed_over nodes c.args.cost c.loop-k.k c.loop-k.next c.if-is_open.next c.loop-k.floor c.if-is_open.floor x c.is_open.result c.loop-k.invariant at c.is_open.ensures w.if-is_open.false w.next-is w.floor-is
    ]

pub returns : goal.returns
returns c = chosen c.args.nodes.now c.args.cost c.loop-k.k c.loop-k.next c.loop-k.floor c.loop-k-test.false c.loop-k.invariant
