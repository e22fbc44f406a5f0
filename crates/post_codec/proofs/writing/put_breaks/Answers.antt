use Rattle.post_codec.proofs.Common.{arith, common_steps, All-more, FitsBreak}
use Rattle.post_codec.proofs.writing.put_breaks.Goals as goal

pub loop-item-preserved : goal.loop-item-preserved
loop-item-preserved c = record {
  put = grind (arith, common_steps);
  fits = All-more FitsBreak c.args.list.now c.loop-item.item-index _ c.loop-item-test.true c.loop-item.invariant.fits c.in_ok-put_break.ensures.fits;
}
