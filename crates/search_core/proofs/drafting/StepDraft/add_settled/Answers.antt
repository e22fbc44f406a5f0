use Rattle.search_core.proofs.Common.{refl, arith, lt-ltb, StepDraft}
use Rattle.search_core.proofs.Drafted.{drafts_settled}
use Rattle.search_core.proofs.drafting.StepDraft.add_settled.Goals as goal

pub returns-in_ok-keep-clause-drafts : goal.returns-in_ok-keep-clause-drafts
returns-in_ok-keep-clause-drafts c = λ i b cuts posts fixed exact dr.
    let d = c.args.self.now in
    let k' = c.keep.new.self in
    let new : StepDraft = record { posts = k'.posts; values = k'.values; best = k'.best; floor = c.args.floor } in
    drafts_settled i b c.args.node cuts posts d new dr c.args.worker c.args.floor fixed exact (lt-ltb d.floor d.best (omega arith)) c.in_ok-keep.ensures.post c.in_ok-keep.ensures.value c.in_ok-keep.ensures.rest.0 refl
