use Rattle.subtree_search.proofs.Common.{slice_get}
use Rattle.subtree_search.proofs.Stepped.{closed_by_price, closed_open}
use Rattle.subtree_search.proofs.stepping.close.Goals as goal

pub returns-then-is_open : goal.returns-then-is_open
returns-then-is_open c =
    closed_open c.args.advised c.args.instance.now c.args.node c.args.search _ c.args.cuts c.is_open.result (slice_get c.args.search.nodes c.args.node) c.is_open.ensures c.if-is_open.true c.in_ok-search.ensures

pub returns : goal.returns
returns c =
    closed_by_price c.args.advised c.args.instance.now c.args.node c.args.search c.args.cuts c.is_open.result (slice_get c.args.search.nodes c.args.node) c.is_open.ensures c.if-is_open.false
