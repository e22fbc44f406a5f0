use Rattle.subtree_search.proofs.Stepped.{settled_made}
use Rattle.subtree_search.proofs.search.Search.settle.Goals as goal

pub returns-then-is_open : goal.returns-then-is_open
returns-then-is_open c =
    settled_made c.args.instance.now c.args.node c.args.self c.offer-search.result _ c.into_plan.result c.args.settlement c.is_open.result c.floor-floor.result c.offer-search.ensures.offered c.into_plan.ensures.plan c.floor-floor.ensures.floor c.is_open.ensures c.if-is_open.true c.in_ok-search.ensures
