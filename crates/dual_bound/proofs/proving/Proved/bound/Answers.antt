use Rattle.dual_bound.proofs.Common.{◌≡◌, ◌≤◌, ℕ, subst, sym, ap, ◌∙◌, cost, Proving, IsProved}
use Rattle.head_splits.proofs.Duality.{weak_duality}
use Rattle.dual_bound.proofs.proving.Proved.bound.Goals as goal

pub returns-clause-below : goal.returns-clause-below
returns-clause-below c rota legal meeting =
    let proved : IsProved c.args.self.now = subst IsProved c.self.view_is c.self.invariant in
    let same : c.self.inside.bound ≡ c.args.self.now.bound = ap (λ (p : Proving). p.bound) c.self.view_is in
    subst (λ (n : ℕ). n ≤ cost c.args.self.now.instance rota) (sym (same ∙ proved.exact))
    (weak_duality c.args.self.now.instance c.args.self.now.cuts c.args.self.now.prices rota proved.passes legal meeting)
