use Rattle.report_nodes.proofs.Grown.{unpriced}
use Rattle.report_nodes.proofs.growing.priced_floor.Goals as goal

pub returns-in_default : goal.returns-in_default
returns-in_default c = record {
  floor = unpriced c.args.instance.now c.args.node.now.cuts _ c.args.prices c.in-Err.fault c.args.node.now.floor c.in_ok-copy_of_cuts.ensures c.in-Err.ensures.fault c.in_default.not-NoMemory;
  buffers = c.in-Err.ensures.instance;
}
