use Rattle.search_core.proofs.Appends.{Appending}
use Rattle.search_core.proofs.state.State.append_all.Given as goal

abbrev pub invariant-loop-post : goal.invariant-loop-post
invariant-loop-post l = Appending l.fn.posts.items l.values l.initial.self l.yielded l.post-iterator.rest.items l.at l.self
