use Rattle.search_book.proofs.Common.{◌≡◌, ◌<◌, length, Some, ap, sym, ◌∙◌, subst, arith, Book, hand, cuts_in}
use Rattle.search_book.proofs.Committed.{none_told}
use Rattle.search_book.proofs.Handing.{cuts_are, is_there}
use Rattle.search_book.proofs.committing.may_commit.Goals as goal

pub cuts_of-requires : goal.cuts_of-requires
cuts_of-requires g c =
    let node = c.args.step.now.node in
    let held : hand c.args.hands.now c.args.worker ≡ Some node = sym c.held-held.ensures.held ∙ c.holds.ensures.0 c.if-not-holds.false in
    subst (λ (x : Book). node < length x.nodes) (sym c.state.ensures.book) (is_there c.args.log.now.book node _ (c.requires.unsplit c.args.worker node held))

pub returns-clause-ok : goal.returns-clause-ok
returns-clause-ok g c =
    let step = c.args.step.now in
    let node = step.node in
    let log = c.args.log.now in
    let held : hand c.args.hands.now c.args.worker ≡ Some node = sym c.held-held.ensures.held ∙ c.holds.ensures.0 c.if-not-holds.false in
    let unsplit = c.requires.unsplit c.args.worker node held in
    let there : node < length log.book.nodes = is_there log.book node _ unsplit in
    let own : step.proved.cuts ≡ c.in-Ok.cuts = sym c.cuts.ensures.cuts ∙ sym c.as_slice.ensures ∙ c.in-None.ensures ∙ c.as_slice-2.ensures in
    let cuts : step.proved.cuts ≡ cuts_in log.book.nodes node = own ∙ cuts_are _ c.in-Ok.cuts c.in-Ok.ensures.cuts ∙ ap (λ (x : Book). cuts_in x.nodes node) c.state.ensures.book in
    let number : length step.proved.cuts ≡ length c.in-Ok.cuts = ap length own in
    record {
      running = none_told log.shut c.shut.result c.is_some.result c.shut.ensures c.is_some.ensures c.if-is_some.false;
      held = held;
      cuts = cuts;
      few = omega (arith, number, c.in-Ok.ensures.few, there, c.made-made.ensures.log.nodes);
      unsplit = unsplit;
    }
