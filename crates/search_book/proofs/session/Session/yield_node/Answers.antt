use Rattle.search_book.proofs.Common.{◌≡◌, ◌<◌, ◌≤◌, ℕ, List, length, length-set, Option, None, Some, ap, sym, ◌∙◌, subst, arith, MatchOption, Entry, Book, full_hands, AreApart, emptied_apart, with_open, ListsFree}
use Rattle.search_book.proofs.Handing.{emptied_counted, emptied_unsplit, AreCounted, AreUnsplit}
use Rattle.search_book.proofs.Listings.{hand_absent, hand_room, yielded_all, yielded_room}
use Rattle.search_book.proofs.session.Session.yield_node.Goals as goal

pub give_back-requires-clause-room : goal.give_back-requires-clause-room
give_back-requires-clause-room g c =
    let b = c.args.self.now in
    hand_room b.hands c.args.worker c.held-held.result b.nodes.spare c.held-held.ensures.held b.room

pub give_back-requires-clause-new : goal.give_back-requires-clause-new
give_back-requires-clause-new g c =
    let b = c.args.self.now in
    hand_absent b.log.book b.hands b.nodes.entries b.only b.found c.args.worker c.held-held.result c.held-held.ensures.held

pub invariant_of-self : goal.invariant_of-self
invariant_of-self g c =
    let b = c.args.self.now in
    let w = c.args.worker in
    let new = c.give_back.new.nodes in
    let rel = c.release.ensures in
    let low : w < length b.hands = omega (arith, c.requires, b.sixteen) in
    let h : Option ℕ = c.held-held.result in
    let entries = subst (λ (x : Book). MatchOption h (new.entries ≡ b.nodes.entries) (λ k. new.entries ≡ with_open x b.nodes.entries k)) c.state.ensures.book c.give_back.ensures.entries in
    let lists : ListsFree b.log.book c.release.new.self new.entries =
    subst (λ (hs : List (Option ℕ)). ListsFree b.log.book hs new.entries) (sym rel) (yielded_all b.log.book b.hands b.nodes.entries b.only b.found w b.apart h new.entries c.held-held.ensures.held entries) in
    let hands = ap full_hands rel in
    let room = yielded_room b.hands w low h b.nodes.spare new.spare c.held-held.ensures.held b.room c.give_back.ensures.spare in
    record {
      all = b.all;
      folds = b.folds;
      apart = subst AreApart (sym rel) (emptied_apart b.hands w b.apart);
      unsplit = subst (AreUnsplit b.log.book) (sym rel) (emptied_unsplit b.log.book b.hands w b.unsplit);
      counted = subst (AreCounted b.taken) (sym rel) (emptied_counted b.taken b.hands w b.counted);
      sixteen = ap length rel ∙ length-set b.hands w None ∙ b.sixteen;
      within = b.within;
      fresh = b.fresh;
      past = b.past;
      only = lists.only;
      found = lists.all;
      room = omega (arith, room, hands);
    }
