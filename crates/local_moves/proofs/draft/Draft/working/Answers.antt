use Rattle.local_moves.proofs.Common.{◌∙◌}
use Rattle.local_moves.proofs.DraftFacts.{view_cover}
use Rattle.local_moves.proofs.draft.Draft.working.Goals as goal

pub returns : goal.returns
returns c = c.working.ensures ∙ view_cover _ c.self.inside.cover c.self.inside.heads.items c.self.inside.rows c.args.t c.self.invariant c.self.view_is
