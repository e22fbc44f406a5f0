use Rattle.search_book.proofs.Common.{◌≡◌, ◌<◌, length, Some, sym, ◌∙◌, subst, arith, Book, hand}
use Rattle.search_book.proofs.Handing.{cuts_few, cuts_held, is_there}
use Rattle.search_book.proofs.session.Session.cuts.Goals as goal

pub cuts_of-requires : goal.cuts_of-requires
cuts_of-requires g c =
    let b = c.args.self.now in
    let at : hand b.hands c.args.worker ≡ Some c.in-Some.node = sym c.held.ensures.held ∙ c.in-Some.is in
    subst (λ (x : Book). c.in-Some.node < length x.nodes) (sym c.state.ensures.book) (is_there b.log.book c.in-Some.node _ (b.unsplit c.args.worker c.in-Some.node at))

pub returns-clause-cuts : goal.returns-clause-cuts
returns-clause-cuts g c =
    let b = c.args.self.now in
    let at : hand b.hands c.args.worker ≡ Some c.in-Some.node = sym c.held.ensures.held ∙ c.in-Some.is in
    cuts_held c.cuts_of.result b.log.book c.state.result.now.book (hand b.hands c.args.worker) c.in-Some.node c.state.ensures.book at c.cuts_of.ensures.cuts

pub returns-clause-few : goal.returns-clause-few
returns-clause-few g c =
    let b = c.args.self.now in
    let at : hand b.hands c.args.worker ≡ Some c.in-Some.node = sym c.held.ensures.held ∙ c.in-Some.is in
    let there : c.in-Some.node < length b.log.book.nodes = is_there b.log.book c.in-Some.node _ (b.unsplit c.args.worker c.in-Some.node at) in
    cuts_few c.cuts_of.result c.in-Some.node (omega (arith, there, c.made-made.ensures.log.nodes)) c.cuts_of.ensures.few
