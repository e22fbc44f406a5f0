use Rattle.certificate.proofs.Common.{arith, subst, common_steps, All-more, FitsRow}
use Rattle.certificate.proofs.writing.add_rows.Goals as goal

pub loop-row-preserved : goal.loop-row-preserved
loop-row-preserved c = record {
  added = grind (arith, common_steps);
  fits = All-more FitsRow c.args.rows.now c.loop-row.row-index c.row-item.result c.loop-row-test.true c.loop-row.invariant.fits (subst FitsRow c.row-item.is c.in_ok-add_row.ensures.fits);
}
