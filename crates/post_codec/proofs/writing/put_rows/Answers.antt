use Rattle.post_codec.proofs.Common.{arith, subst, common_steps, All-more, FitsRow}
use Rattle.post_codec.proofs.writing.put_rows.Goals as goal

pub loop-item-preserved : goal.loop-item-preserved
loop-item-preserved c = record {
  put = grind (arith, common_steps);
  fits = All-more FitsRow c.args.list.now c.loop-item.item-index c.item-item.result c.loop-item-test.true c.loop-item.invariant.fits (subst FitsRow c.item-item.is c.in_ok-put_row.ensures.fits);
}
