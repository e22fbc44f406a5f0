use Rattle.local_moves.proofs.DraftFacts.{view_legal}
use Rattle.local_moves.proofs.draft.Draft.allocator.Goals as goal

pub returns : goal.returns
returns c = record { legal = view_legal _ c.self.inside.cover c.self.inside.heads.items c.self.inside.rows c.self.invariant c.self.view_is }
