use Rattle.search_book.proofs.Common.{◌≡◌, Bool, true, false, List, Option, Some, None, ap, sym, ◌∙◌, lt-ltb, ltb-true, is_some, ◌↔◌, IsTrue, Problem, Post, Book, book_of, is_finished, book_or_opening, book_is}
use Rattle.search_book.proofs.session.Session.gives.Goals as goal

none_of : {X : Type 0} (o : Option X) → is_some o ≡ false → o ≡ None
none_of None e = cc
none_of (Some x) e = absurd (cc)

is_none : {X : Type 0} (o told : Option X) (b : Bool) → told ≡ o → b ≡ is_some told → b ≡ false → o ≡ None
is_none o told b same is absent = none_of o (ap is_some (sym same) ∙ sym is ∙ absent)

is_shut : {X : Type 0} (o told : Option X) (b : Bool) → told ≡ o → b ≡ is_some told → b ≡ true → o ≡ None → false ≡ true
is_shut o told b same is there none = sym (ap is_some none) ∙ ap is_some (sym same) ∙ sym is ∙ there

ends : (i : Problem) (history : List Post) (b : Book) (r t : Bool) → book_of i history ≡ Some b → r ≡ is_finished b → r ≡ t → is_finished (book_or_opening i history) ≡ t
ends i history b r t folds is e = ap is_finished (book_is i history b folds) ∙ sym is ∙ e

off : {P : Type 0} → (P → false ≡ true) → IsTrue false ↔ P
off refuted = ((λ e. absurd (cc)), refuted)

pub returns-then-is_some : goal.returns-then-is_some
returns-then-is_some g c = off (λ given. is_shut c.args.self.now.log.shut c.shut.result c.is_some.result c.shut.ensures c.is_some.ensures c.if-is_some.true given.running)

pub returns-then-is_finished : goal.returns-then-is_finished
returns-then-is_finished g c =
    let b = c.args.self.now in
    off (λ given. sym given.unfinished ∙ ends b.log.instance b.log.history b.log.book c.is_finished.result true b.folds c.is_finished.ensures c.if-is_finished.true)

pub returns-then-self : goal.returns-then-self
returns-then-self g c = off (λ given. sym given.going ∙ c.if-self.true)

pub returns : goal.returns
returns g c =
    let b = c.args.self.now in (
      (λ left. record {
        running = is_none b.log.shut c.shut.result c.is_some.result c.shut.ensures c.is_some.ensures c.if-is_some.false;
        unfinished = ends b.log.instance b.log.history b.log.book c.is_finished.result false b.folds c.is_finished.ensures c.if-is_finished.false;
        going = c.if-self.false;
        step_left = ltb-true b.taken b.budget left;
      }),
      (λ given. lt-ltb b.taken b.budget given.step_left),
    )
