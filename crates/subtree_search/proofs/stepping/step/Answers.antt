use Rattle.subtree_search.proofs.Common.{◌≡◌, ◌<◌, ◌^◌, length, arith}
use Rattle.subtree_search.proofs.Stepped.{step_made, there_offered}
use Rattle.subtree_search.proofs.stepping.step.Goals as goal

pub returns-clause-step : goal.returns-clause-step
returns-clause-step c =
    (step_made c.args.instance.now c.args.search c.offer-search.result c.in_ok-search.search _ c.args.node c.requires.next c.args.advice c.in_ok-cuts.cuts c.cost_plan.result c.in_ok-proved.proved c.in_ok-cuts.ensures c.cost_plan.ensures.rows c.cost_plan.ensures.costed
    c.offer-search.ensures.offered c.in_ok-proved.ensures.prices c.in_ok-proved.ensures.proved c.in_ok-search.ensures.priced c.in_ok-search-2.ensures).step

pub returns-clause-longer : goal.returns-clause-longer
returns-clause-longer c =
    (step_made c.args.instance.now c.args.search c.offer-search.result c.in_ok-search.search _ c.args.node c.requires.next c.args.advice c.in_ok-cuts.cuts c.cost_plan.result c.in_ok-proved.proved c.in_ok-cuts.ensures c.cost_plan.ensures.rows c.cost_plan.ensures.costed
    c.offer-search.ensures.offered c.in_ok-proved.ensures.prices c.in_ok-proved.ensures.proved c.in_ok-search.ensures.priced c.in_ok-search-2.ensures).longer

pub price-requires-clause-there : goal.price-requires-clause-there
price-requires-clause-there c = there_offered c.args.search c.offer-search.result c.args.node c.requires.next c.offer-search.ensures.nodes

pub price-requires-clause-room : goal.price-requires-clause-room
price-requires-clause-room c =
    let same : c.offer-search.result.taken ≡ c.args.search.taken = c.offer-search.ensures.taken in
    let room : c.args.search.taken < 2 ^ 32 = c.requires.room in
    omega (arith, same, room)

pub close-requires-clause-there : goal.close-requires-clause-there
close-requires-clause-there c =
    let there : c.args.node < length c.offer-search.result.nodes = there_offered c.args.search c.offer-search.result c.args.node c.requires.next c.offer-search.ensures.nodes in
    let same : length c.in_ok-search.search.nodes ≡ length c.offer-search.result.nodes = c.in_ok-search.ensures.longer in
    omega (arith, there, same)
