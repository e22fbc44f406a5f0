use Rattle.certificate.proofs.Common.{◌<◌, ◌^◌, arith, common_steps, All-more}
use Rattle.certificate.proofs.proof_writing.add_further_cuts.Goals as goal

pub loop-next-preserved : goal.loop-next-preserved
loop-next-preserved c = record {
  added = grind (arith, common_steps);
  fits = All-more (λ price. price < 2 ^ 64) c.args.prices.now c.loop-next.next-index _ c.loop-next-test.true c.loop-next.invariant.fits c.in_ok-add_cut.ensures.fits;
}
