use Rattle.recovery.proofs.Common.{rules, arith}
use Rattle.std.proofs.lemmas.Grind.{common_steps}
use Rattle.recovery.proofs.Found.{found_more}
use Rattle.recovery.proofs.findings.findings_of.Goals as goal

pub loop-post-preserved : goal.loop-post-preserved
loop-post-preserved c = record {
  buffers = first_of (search rules, grind (arith, common_steps));
  found =
      found_more c.args.instance.now c.args.tree.now c.args.posts.now c.loop-post.post-index c.loop-post.all.items c.push.new.self.items c.post-item.result c.in_ok-found_of.field-0 (search rules) c.post-item.is
      c.loop-post.invariant.count c.loop-post.invariant.found c.in_ok-found_of.ensures.found c.in_ok-push.ensures.items;
  count = first_of (search rules, grind (arith, common_steps));
}
