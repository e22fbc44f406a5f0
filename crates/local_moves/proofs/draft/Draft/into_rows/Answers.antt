use Rattle.local_moves.proofs.DraftFacts.{view_legal}
use Rattle.local_moves.proofs.draft.Draft.into_rows.Goals as goal

pub returns-clause-legal : goal.returns-clause-legal
returns-clause-legal c = view_legal _ c.self.inside.cover c.self.inside.heads.items c.self.inside.rows c.self.invariant c.self.view_is
