use Rattle.certificate.proofs.Common.{arith, w64, common_steps, All-more}
use Rattle.std.specs.Prelude.{FitsSigned}
use Rattle.certificate.proofs.proof_writing.add_further_slots.Goals as goal

pub loop-next-preserved : goal.loop-next-preserved
loop-next-preserved c = record {
  added = grind (arith, common_steps);
  fits = All-more (FitsSigned w64) c.args.prices.now c.loop-next.next-index _ c.loop-next-test.true c.loop-next.invariant.fits c.in_ok-add_slot.ensures.fits;
}
