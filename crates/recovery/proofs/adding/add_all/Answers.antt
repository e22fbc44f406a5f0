use Rattle.recovery.proofs.Common.{taking_more, taking_stops}
use Rattle.recovery.proofs.Found.{next_found}
use Rattle.recovery.proofs.adding.add_all.Goals as goal

pub add_post-requires-clause-found : goal.add_post-requires-clause-found
add_post-requires-clause-found c =
    next_found c.args.instance.now c.args.tree.now c.args.posts.items c.requires.tree.0 c.args.findings.now c.args.state.now c.loop-post.state _ _ _ c.loop-post.at c.in-Some.post c.found_at.result c.heads-heads.ensures.valid c.requires.instance c.history-posts.ensures.folds
    c.requires.tree.1 c.requires.found c.loop-post.invariant c.in-Some.ensures.steps.0 c.found_at.ensures

pub returns-in-Err-clause-err : goal.returns-in-Err-clause-err
returns-in-Err-clause-err c = taking_stops _ _ _ _ _ _ _ _ c.in-Some.post c.in-Err.why c.requires.instance c.loop-post.invariant c.in-Some.ensures.steps.0 c.in-Err.ensures.err

pub loop-post-preserved : goal.loop-post-preserved
loop-post-preserved c = taking_more _ _ _ _ _ _ _ _ c.in-Some.post c.loop-post.invariant c.in-Some.ensures.steps.0 c.in_default.ensures.ok
