use Rattle.subtree_search.proofs.Common.{◌∙◌, sym}
use Rattle.subtree_search.proofs.Lawful.{split_advised, split_settling}
use Rattle.subtree_search.proofs.closing.closing_of.Goals as goal

pub returns-in-Some : goal.returns-in-Some
returns-in-Some c =
    split_advised c.args.instance.now c.args.cuts c.args.advised c.in-Some.field-0 c.in-Open.class c.in-Open.m _ (sym c.in_ok-split.ensures ∙ c.in-Some.is) c.in-Open.is c.in_ok-node.ensures.exact

pub returns-in-None : goal.returns-in-None
returns-in-None c =
    split_settling c.args.instance.now c.args.cuts c.args.advised c.in-Open.class c.in-Open.m _ (sym c.in_ok-split.ensures ∙ c.in-None.is) c.in-Open.is c.in_ok-node.ensures.exact c.in_ok-node.ensures.split
