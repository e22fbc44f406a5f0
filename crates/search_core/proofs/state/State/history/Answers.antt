use Rattle.search_core.proofs.Common.{◌≤◌, ◌+◌, ◌*◌, length, subst, StateView, book_or_opening}
use Rattle.search_core.proofs.FewNodes.{nodes_by_posts}
use Rattle.search_core.proofs.state.State.history.Goals as goal

pub returns-clause-few : goal.returns-clause-few
returns-clause-few c =
    let b = c.self.inside in
    subst (λ (v : StateView). length v.book.nodes ≤ 1 + 2 * length v.history) c.self.view_is
    (nodes_by_posts b.instance.value b.posts.items (book_or_opening b.instance.value b.posts.items) c.self.invariant.0.folds)
