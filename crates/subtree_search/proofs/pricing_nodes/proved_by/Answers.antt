use Rattle.subtree_search.proofs.Lawful.{unlawful}
use Rattle.subtree_search.proofs.pricing_nodes.proved_by.Goals as goal

pub returns-in_default : goal.returns-in_default
returns-in_default c = record {
  proved = unlawful c.args.instance.now c.args.cuts.now _ c.args.prices c.in-Err.fault c.in_ok-copy_of.ensures c.in-Err.ensures.fault c.in_default.not-NoMemory;
  buffers = c.in-Err.ensures.instance;
}
