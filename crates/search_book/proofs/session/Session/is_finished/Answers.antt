use Rattle.search_book.proofs.Common.{◌≡◌, ap, not, sym, ◌∙◌, subst, Book, HoldsOpen}
use Rattle.search_book.proofs.Listings.{finished_else, first_listed}
use Rattle.search_book.proofs.session.Session.is_finished.Goals as goal

pub returns-then-is_none : goal.returns-then-is_none
returns-then-is_none g c =
    let b = c.args.self.now in
    finished_else b.log.book b.hands b.nodes.entries b.found c.first.result c.first.ensures.first (c.is_none.ensures ∙ ap not c.if-is_none.true) c.holds_open.result
    (λ e. subst (λ (x : Book). HoldsOpen x b.hands) c.state.ensures.book (c.holds_open.ensures.some e))
    (λ e h. c.holds_open.ensures.none e (subst (λ (x : Book). HoldsOpen x b.hands) (sym c.state.ensures.book) h))

pub returns-else-is_none : goal.returns-else-is_none
returns-else-is_none g c =
    let b = c.args.self.now in
    c.if-is_none.false ∙ sym (first_listed b.log.book b.hands b.nodes.entries b.only c.first.result c.first.ensures.first (c.is_none.ensures ∙ ap not c.if-is_none.false))
