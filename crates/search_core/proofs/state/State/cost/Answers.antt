use Rattle.search_core.proofs.Common.{subst, IsSound, StateView, book_or_opening}
use Rattle.search_core.proofs.Sound.{fold_sound}
use Rattle.search_core.proofs.state.State.cost.Goals as goal

pub returns-clause-sound : goal.returns-clause-sound
returns-clause-sound c = subst (λ (v : StateView). IsSound v.instance v.book) c.self.view_is (let b = c.self.inside in fold_sound b.instance.value b.posts.items (book_or_opening b.instance.value b.posts.items) c.self.invariant.0.folds)
