use Rattle.recovery.proofs.Common.{rules}
use Rattle.recovery.proofs.Trees.{post_more}
use Rattle.recovery.proofs.rebuilding.add_nodes.Goals as goal

pub loop-post-preserved : goal.loop-post-preserved
loop-post-preserved c = post_more c.loop-post.tree c.add_parts.new.tree c.args.tree.now c.args.posts.now c.loop-post.post-index c.post-item.result (search rules) c.post-item.is c.loop-post.invariant (search rules)
