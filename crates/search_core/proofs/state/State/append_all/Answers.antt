use Rattle.search_core.proofs.Appends.{appending_more}
use Rattle.search_core.proofs.state.State.append_all.Goals as goal

pub loop-post-preserved : goal.loop-post-preserved
loop-post-preserved c = appending_more _ _ _ _ _ _ _ _ c.append.new.self c.in-Some.post c.loop-post.invariant c.in-Some.ensures.steps.0 c.append.ensures.step c.append.ensures.rest
