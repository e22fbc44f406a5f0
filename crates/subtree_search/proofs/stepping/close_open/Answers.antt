use Rattle.subtree_search.proofs.Stepped.{closed_settled, closed_split, closing_small}
use Rattle.subtree_search.proofs.stepping.close_open.Goals as goal

pub divide-requires-clause-small : goal.divide-requires-clause-small
divide-requires-clause-small c =
    closing_small c.args.advised c.args.instance.now c.args.cuts c.in-Open.class c.in-Open.m c.in_ok-class.field-0 c.slots-valid.ensures.valid c.in-Open.is c.in_ok-class.ensures

pub returns-in_ok-search-in-Open : goal.returns-in_ok-search-in-Open
returns-in_ok-search-in-Open c =
    closed_split c.args.advised c.args.instance.now c.args.node c.args.search _ c.args.cuts c.in-Open.class c.in-Open.m c.in_ok-class.field-0 c.in-Open.is c.in_ok-class.ensures c.in_ok-search-in-Open.ensures

pub returns-in_ok-search-in-Done : goal.returns-in_ok-search-in-Done
returns-in_ok-search-in-Done c =
    closed_settled c.args.advised c.args.instance.now c.args.node c.args.search _ c.args.cuts c.in-Done.settlement c.in_ok-class.field-0 c.in-Done.is c.in_ok-class.ensures c.in_ok-search-in-Done.ensures
