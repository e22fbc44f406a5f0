use Rattle.search_book.proofs.Common.{◌≡◌, ℕ, ◌≤◌, length, List, Option, None, Some, ap, sym, ◌∙◌, subst, arith, full_hands, empty_hands, hand, no_hand, ListsFree}
use Rattle.search_book.proofs.session.Session.over.Goals as goal

pub invariant_of-result : goal.invariant_of-result
invariant_of-result g c =
    let is : c.empty-hands.result ≡ empty_hands = c.empty-hands.ensures in
    let sixteen : length c.empty-hands.result ≡ 16 = ap length is in
    let none : full_hands c.empty-hands.result ≡ 0 = ap full_hands is in
    let lists = subst (λ (l : List (Option ℕ)). ListsFree c.args.log.book l c.args.nodes.entries) (sym is) c.requires.nodes in
    let log = c.made-made.ensures.log in
    record {
      all = log.all;
      folds = log.folds;
      apart = λ v w x p q. absurd (no_hand 16 v x (ap (λ (l : List (Option ℕ)). hand l v) (sym is) ∙ p));
      unsplit = λ w x p. absurd (no_hand 16 w x (ap (λ (l : List (Option ℕ)). hand l w) (sym is) ∙ p));
      counted = λ w x p. absurd (no_hand 16 w x (ap (λ (l : List (Option ℕ)). hand l w) (sym is) ∙ p));
      sixteen = sixteen;
      within = omega arith;
      fresh = λ e. c.requires.new;
      past = λ end most e. absurd (cc (c.requires.open, e));
      only = lists.only;
      found = lists.all;
      room = omega (arith, none);
    }
