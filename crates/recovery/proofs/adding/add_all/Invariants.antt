use Rattle.recovery.proofs.Common.{Taking}
use Rattle.recovery.proofs.adding.add_all.Given as goal

abbrev pub invariant-loop-post : goal.invariant-loop-post
invariant-loop-post l = Taking l.fn.posts.items l.initial.state l.yielded l.post-iterator.rest.items l.at l.state
