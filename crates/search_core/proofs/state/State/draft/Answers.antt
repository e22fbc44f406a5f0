use Rattle.search_core.proofs.Closing.{before_of, drafted, unsplit_there}
use Rattle.search_core.proofs.state.State.draft.Goals as goal

pub floor_and_best-floor-requires : goal.floor_and_best-floor-requires
floor_and_best-floor-requires c = unsplit_there c.args.self.now.book c.args.step.node c.requires.unsplit

pub returns : goal.returns
returns c =
    let v = c.args.self.now in
    let step = c.args.step in
    let f = c.floor_and_best-floor in
    drafted c.draft_of.result v.instance v.book c.args.worker f.result.1 f.result.0 step c.draft_of.ensures.drafts c.draft_of.ensures.few f.ensures.valid c.requires.fits
    (before_of v.instance v.book step.node step.proved.cuts f.result.1 f.result.0 c.requires.unsplit c.requires.cuts f.ensures.best f.ensures.floor)
