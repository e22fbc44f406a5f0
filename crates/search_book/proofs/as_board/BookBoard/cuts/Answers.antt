use Rattle.search_book.proofs.Common.{◌≡◌, ℕ, Some, sym, subst, IfOk, Book, hand, cuts_in, book_is}
use Rattle.search_book.proofs.as_board.BookBoard.cuts.Goals as goal

pub returns-clause-cuts : goal.returns-clause-cuts
returns-clause-cuts g c =
    let b = c.args.self.now in
    subst (λ (x : Book). IfOk c.cuts.result (λ cuts. (k : ℕ) → hand b.hands c.args.worker ≡ Some k → cuts ≡ cuts_in x.nodes k)) (sym (book_is b.log.instance b.log.history b.log.book b.keeps.folds)) c.cuts.ensures.cuts
