use Rattle.search_book.proofs.Common.{◌≡◌, ◌<◌, length, Some, sym, ◌∙◌, subst, Book, hand}
use Rattle.search_book.proofs.Handing.{is_there}
use Rattle.search_book.proofs.session.Session.hint.Goals as goal

pub hint-requires : goal.hint-requires
hint-requires g c =
    let b = c.args.self.now in
    let at : hand b.hands c.args.worker ≡ Some c.in-Some.node = sym c.held.ensures.held ∙ c.in-Some.is in
    subst (λ (x : Book). c.in-Some.node < length x.nodes) (sym c.state.ensures.book) (is_there b.log.book c.in-Some.node _ (b.unsplit c.args.worker c.in-Some.node at))
