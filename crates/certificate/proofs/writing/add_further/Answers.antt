use Rattle.certificate.proofs.Common.{arith, common_steps, All-more, FitsBreak}
use Rattle.certificate.proofs.writing.add_further.Goals as goal

pub loop-next-preserved : goal.loop-next-preserved
loop-next-preserved c = record {
  added = grind (arith, common_steps);
  fits = All-more FitsBreak c.args.breaks.now c.loop-next.next-index _ c.loop-next-test.true c.loop-next.invariant.fits c.in_ok-add_break.ensures.fits;
}
