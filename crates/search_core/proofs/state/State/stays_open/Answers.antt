use Rattle.search_core.proofs.Common.{◌<◌, sym, subst, ℕ, TOP}
use Rattle.search_core.proofs.Closing.{before_of, cost_below, still_open, unsplit_there}
use Rattle.search_core.proofs.state.State.stays_open.Goals as goal

pub floor_and_best-floor-requires : goal.floor_and_best-floor-requires
floor_and_best-floor-requires c = unsplit_there c.args.self.now.book c.args.step.now.node c.requires.unsplit

pub returns-clause-open : goal.returns-clause-open
returns-clause-open c =
    let v = c.args.self.now in
    let step = c.args.step.now in
    let f = c.floor_and_best-floor in
    still_open c.stays_open.result v.instance v.book f.result.1 f.result.0 step c.stays_open.ensures.open c.requires.fits
    (before_of v.instance v.book step.node step.proved.cuts f.result.1 f.result.0 c.requires.unsplit c.requires.cuts f.ensures.best f.ensures.floor)

pub returns-clause-closed : goal.returns-clause-closed
returns-clause-closed c = λ none w.
    let v = c.args.self.now in
    let step = c.args.step.now in
    let f = c.floor_and_best-floor in
    let below : f.result.1 < TOP = subst (λ (n : ℕ). n < TOP) (sym f.ensures.best) (cost_below v.instance v.book f.ensures.valid f.ensures.sound) in
    c.stays_open.ensures.closed none below v.instance v.book w c.requires.fits
    (before_of v.instance v.book step.node step.proved.cuts f.result.1 f.result.0 c.requires.unsplit c.requires.cuts f.ensures.best f.ensures.floor)
