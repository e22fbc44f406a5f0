use Rattle.post_codec.proofs.Common.{arith, common_steps}
use Rattle.post_codec.proofs.writing.put_slots.Goals as goal

pub loop-item-preserved : goal.loop-item-preserved
loop-item-preserved c = grind (arith, common_steps)
