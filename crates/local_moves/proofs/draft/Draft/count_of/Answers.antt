use Rattle.local_moves.proofs.Common.{subst, sym, Sorted, IsBefore}
use Rattle.local_moves.proofs.DraftFacts.{draft_sorted}
use Rattle.local_moves.proofs.draft.Draft.count_of.Goals as goal

pub count_in-requires : goal.count_in-requires
count_in-requires c = record { order = subst (λ rows. Sorted IsBefore rows) (sym c.as_slice.ensures) (draft_sorted c.self.inside.cover.instance c.self.inside.cover c.self.inside.heads.items c.self.inside.rows c.self.invariant) }
