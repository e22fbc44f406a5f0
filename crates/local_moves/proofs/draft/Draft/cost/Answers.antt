use Rattle.local_moves.proofs.Common.{◌∙◌, ℕ, ◌<◌, sym, subst}
use Rattle.local_moves.proofs.DraftCosts.{view_below}
use Rattle.local_moves.proofs.DraftFacts.{view_cost, view_legal}
use Rattle.local_moves.proofs.draft.Draft.cost.Goals as goal

pub returns-clause-cost : goal.returns-clause-cost
returns-clause-cost c = c.cost.ensures ∙ view_cost _ c.self.inside.cover c.self.inside.heads.items c.self.inside.rows c.self.invariant c.self.view_is

pub returns-clause-legal : goal.returns-clause-legal
returns-clause-legal c = view_legal _ c.self.inside.cover c.self.inside.heads.items c.self.inside.rows c.self.invariant c.self.view_is

pub returns-clause-below : goal.returns-clause-below
returns-clause-below c =
    subst (λ (n : ℕ). n < 1000000000000000) (sym (c.cost.ensures ∙ view_cost _ c.self.inside.cover c.self.inside.heads.items c.self.inside.rows c.self.invariant c.self.view_is))
    (view_below _ c.self.inside.cover c.self.inside.heads.items c.self.inside.rows c.self.invariant c.self.view_is)
