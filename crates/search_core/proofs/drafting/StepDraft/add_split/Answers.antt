use Rattle.search_core.proofs.Common.{arith, lt-ltb}
use Rattle.search_core.proofs.Drafted.{drafts_split}
use Rattle.search_core.proofs.drafting.StepDraft.add_split.Goals as goal

pub returns-in_ok-keep-clause-drafts : goal.returns-in_ok-keep-clause-drafts
returns-in_ok-keep-clause-drafts c = λ i b cuts posts valid live least most dr.
    let d = c.args.self.now in
    drafts_split i b c.args.node cuts posts d c.keep.new.self dr c.args.worker c.args.class c.args.m valid live least most (lt-ltb d.floor d.best (omega arith)) c.in_ok-keep.ensures.post c.in_ok-keep.ensures.value c.in_ok-keep.ensures.rest.0 c.in_ok-keep.ensures.rest.1
