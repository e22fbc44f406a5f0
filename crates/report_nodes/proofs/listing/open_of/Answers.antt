use Rattle.report_nodes.proofs.Grown.{open_done, open_more}
use Rattle.report_nodes.proofs.listing.open_of.Goals as goal

pub loop-k-preserved : goal.loop-k-preserved
loop-k-preserved c =
    open_more c.args.cost c.loop-k.k c.args.nodes.now c.index-nodes-k.result c.loop-k.list.items c.in_ok-list.list.items _ c.loop-k-test.true c.index-nodes-k.is c.in_ok-list.ensures c.loop-k.invariant

pub returns : goal.returns
returns c = open_done c.args.cost c.loop-k.k c.args.nodes.now c.loop-k.list.items _ c.loop-k-test.false c.loop-k.invariant
