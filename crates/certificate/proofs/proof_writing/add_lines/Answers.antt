use Rattle.certificate.proofs.Common.{arith, subst, common_steps, All-more, FitsLine}
use Rattle.certificate.proofs.proof_writing.add_lines.Goals as goal

pub loop-line-preserved : goal.loop-line-preserved
loop-line-preserved c = record {
  added = grind (arith, common_steps);
  fits = All-more FitsLine c.args.lines.now c.loop-line.line-index c.line-item.result c.loop-line-test.true c.loop-line.invariant.fits (subst FitsLine c.line-item.is c.in_ok-add_line.ensures.fits);
}
