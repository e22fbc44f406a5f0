use Rattle.search_book.proofs.Common.{ap, sym, ◌∙◌, Book, book_is}
use Rattle.search_book.proofs.as_board.BookBoard.best_cost.Goals as goal

pub returns : goal.returns
returns g c =
    let b = c.args.self.now in
    c.best_cost.ensures ∙ ap (λ (x : Book). x.cost) (sym (book_is b.log.instance b.log.history b.log.book b.keeps.folds))
