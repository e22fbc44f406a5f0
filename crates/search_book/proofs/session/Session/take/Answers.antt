use Rattle.search_book.proofs.Common.{◌≡◌, ◌+◌, ◌<◌, ◌≤◌, ℕ, Bool, true, false, List, length, length-set, Option, Some, None, ap, sym, ◌∙◌, subst, refl, arith, is_some, Problem, Post, Entry, floor_of_node, is_free, IsNext, NoneIsFree, Book, book_of, is_finished, full_hands, AreApart, book_or_opening, book_is, taken_apart, ListsAllFree, ListsFree, ListsOnlyFree, board_at}
use Rattle.search_book.proofs.Handing.{free_alone, taken_unsplit, AreUnsplit}
use Rattle.search_book.proofs.Listings.{first_floor, first_free, first_next, none_free, take_fills, taken_lists}
use Rattle.search_book.proofs.session.Session.take.Goals as goal

none_of : {X : Type 0} (o : Option X) → is_some o ≡ false → o ≡ None
none_of None e = refl
none_of (Some x) e = absurd (cc)

is_none : {X : Type 0} (o told : Option X) (b : Bool) → told ≡ o → b ≡ is_some told → b ≡ false → o ≡ None
is_none o told b same is absent = none_of o (ap is_some (sym same) ∙ sym is ∙ absent)

ends : (i : Problem) (history : List Post) (b : Book) (r t : Bool) → book_of i history ≡ Some b → r ≡ is_finished b → r ≡ t → is_finished (book_or_opening i history) ≡ t
ends i history b r t folds is e = ap is_finished (book_is i history b folds) ∙ sym is ∙ e

pub returns-then-is_finished-clause-makes : goal.returns-then-is_finished-clause-makes
returns-then-is_finished-clause-makes g c =
    let b = c.args.self.now in
    (is_none b.log.shut c.shut.result c.is_some.result c.shut.ensures c.is_some.ensures c.if-is_some.false, ends b.log.instance b.log.history b.log.book c.is_finished.result true b.folds c.is_finished.ensures c.if-is_finished.true, refl)

pub returns-then-self-clause-makes : goal.returns-then-self-clause-makes
returns-then-self-clause-makes g c =
    let b = c.args.self.now in
    (is_none b.log.shut c.shut.result c.is_some.result c.shut.ensures c.is_some.ensures c.if-is_some.false, ends b.log.instance b.log.history b.log.book c.is_finished.result false b.folds c.is_finished.ensures c.if-is_finished.false, c.if-self.true, refl)

pub returns-then-self-2-clause-makes : goal.returns-then-self-2-clause-makes
returns-then-self-2-clause-makes g c =
    let b = c.args.self.now in
    (is_none b.log.shut c.shut.result c.is_some.result c.shut.ensures c.is_some.ensures c.if-is_some.false, ends b.log.instance b.log.history b.log.book c.is_finished.result false b.folds c.is_finished.ensures c.if-is_finished.false, c.if-self.false, omega (arith, c.if-self-2.true), refl)

pub invariant_of-self : goal.invariant_of-self
invariant_of-self g c =
    let b = c.args.self.now in
    let same = c.in_default.ensures.taken in
    record {
      all = b.all;
      folds = b.folds;
      apart = b.apart;
      unsplit = b.unsplit;
      counted = b.counted;
      sixteen = b.sixteen;
      within = b.within;
      fresh = b.fresh;
      past = b.past;
      only = subst (λ (l : List Entry). ListsOnlyFree b.log.book b.hands l) same b.only;
      found = subst (λ (l : List Entry). ListsAllFree b.log.book b.hands l) same b.found;
      room = omega (arith, b.room, c.in_default.ensures.spare);
    }

pub returns-in_default-clause-makes : goal.returns-in_default-clause-makes
returns-in_default-clause-makes g c =
    let b = c.args.self.now in (
      record {
        running = is_none b.log.shut c.shut.result c.is_some.result c.shut.ensures c.is_some.ensures c.if-is_some.false;
        unfinished = ends b.log.instance b.log.history b.log.book c.is_finished.result false b.folds c.is_finished.ensures c.if-is_finished.false;
        going = c.if-self.false;
        step_left = omega (arith, b.within, c.if-self-2.false);
      },
      subst (λ (x : Book). NoneIsFree x b.hands) (sym (book_is b.log.instance b.log.history b.log.book b.folds)) (none_free b.log.book b.hands b.nodes.entries b.only b.found c.in_default.ensures.none),
      refl,
    )

pub take-requires-clause-free : goal.take-requires-clause-free
take-requires-clause-free g c =
    let b = c.args.self.now in
    free_alone b.log.book b.hands c.in-Some.node (first_free b.log.book b.hands b.nodes.entries b.only b.found c.in-Some.floor c.in-Some.node c.take_first.new.self.entries c.in-Some.ensures.taken c.first-first.ensures.rises)

pub invariant_of-self-2 : goal.invariant_of-self-2
invariant_of-self-2 g c =
    let b = c.args.self.now in
    let k = c.in-Some.node in
    let rest = c.take_first.new.self.entries in
    let free : is_free b.log.book b.hands k ≡ true = first_free b.log.book b.hands b.nodes.entries b.only b.found c.in-Some.floor k rest c.in-Some.ensures.taken c.first-first.ensures.rises in
    let low : c.args.worker < length b.hands = omega (arith, c.requires.worker, b.sixteen) in
    let lists : ListsFree b.log.book c.take.new.self rest =
    subst (λ (h : List (Option ℕ)). ListsFree b.log.book h rest) (sym c.take.ensures) (taken_lists b.log.book b.hands b.nodes.entries b.only b.found c.in-Some.floor k rest c.in-Some.ensures.taken c.first-first.ensures.rises c.args.worker low c.requires.empty) in
    let fills = take_fills b.hands c.args.worker k low c.requires.empty in
    let hands = ap full_hands c.take.ensures in
    record {
      all = b.all;
      folds = b.folds;
      apart = subst AreApart (sym c.take.ensures) (taken_apart b.hands c.args.worker k b.apart (free_alone b.log.book b.hands k free));
      unsplit = subst (AreUnsplit b.log.book) (sym c.take.ensures) (taken_unsplit b.log.book b.hands c.args.worker k b.unsplit free);
      counted = λ w x held. omega arith;
      sixteen = ap length c.take.ensures ∙ length-set b.hands c.args.worker (Some k) ∙ b.sixteen;
      within = omega (arith, b.within, c.if-self-2.false);
      fresh = λ none. absurd (omega arith);
      past = b.past;
      only = lists.only;
      found = lists.all;
      room = omega (arith, b.room, fills, hands, c.in-Some.ensures.spare);
    }

pub returns-clause-makes : goal.returns-clause-makes
returns-clause-makes g c =
    let b = c.args.self.now in
    let here = book_is b.log.instance b.log.history b.log.book b.folds in
    let k = c.in-Some.node in
    let rest = c.take_first.new.self.entries in
    let next : IsNext b.log.book b.hands k = first_next b.log.book b.hands b.nodes.entries b.only b.found c.in-Some.floor k rest c.in-Some.ensures.taken c.first-first.ensures.rises in
    let floor : floor_of_node b.log.book k ≡ c.in-Some.floor = first_floor b.log.book b.hands b.nodes.entries b.only b.found c.in-Some.floor k rest c.in-Some.ensures.taken c.first-first.ensures.rises in (
      record {
        running = is_none b.log.shut c.shut.result c.is_some.result c.shut.ensures c.is_some.ensures c.if-is_some.false;
        unfinished = ends b.log.instance b.log.history b.log.book c.is_finished.result false b.folds c.is_finished.ensures c.if-is_finished.false;
        going = c.if-self.false;
        step_left = omega (arith, b.within, c.if-self-2.false);
      },
      subst (λ (x : Book). IsNext x b.hands k) (sym here) next,
      sym floor ∙ ap (λ (x : Book). floor_of_node x k) (sym here),
      c.cost-best.ensures.cost ∙ ap (λ (x : Book). x.cost) (c.state.ensures.book ∙ sym here),
      ap (λ (h : List (Option ℕ)). board_at g.D.Disk.reads g.D.Disk.calls g.D.Disk.faults b.log h (b.taken + 1) b.budget b.halted) c.take.ensures,
    )
