use Rattle.post_codec.proofs.Common.{arith, subst, common_steps, All-more, Five, FitsPost}
use Rattle.post_codec.proofs.writing.write.Goals as goal

pub loop-item-preserved : goal.loop-item-preserved
loop-item-preserved c = record {
  put = grind (arith, common_steps);
  fits = All-more (FitsPost Five) c.args.posts.now c.loop-item.item-index c.item-item.result c.loop-item-test.true c.loop-item.invariant.fits (subst (FitsPost Five) c.item-item.is c.in_ok-put_post.ensures.fits);
}
