use Rattle.recovery.proofs.Common.{rules}
use Rattle.recovery.proofs.Trees.{record_more}
use Rattle.recovery.proofs.rebuilding.add_all_nodes.Goals as goal

pub loop-outcome-preserved : goal.loop-outcome-preserved
loop-outcome-preserved c = record_more c.loop-outcome.tree c.add_nodes_of.new.tree c.args.tree.now c.args.outcomes.now c.loop-outcome.outcome-index c.outcome-item.result (search rules) c.outcome-item.is c.loop-outcome.invariant (search rules)
