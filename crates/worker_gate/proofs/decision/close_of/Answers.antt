use Rattle.worker_gate.proofs.Common.{◌≡◌, ◌∙◌, Option, Some, None, refl, subst, sym, IsFalse, MatchOption, is_settled, Splitting, IsFixing, Open, lawful_split}
use Rattle.dual_bound.specs.declared.settling.Fixing.{Fixing}
use Rattle.worker_gate.proofs.Lawful.{open_fits, split_fits}
use Rattle.worker_gate.proofs.decision.close_of.Goals as goal

pub returns-in-Some-clause-given : goal.returns-in-Some-clause-given
returns-in-Some-clause-given c =
    let i = c.args.instance.now in
    let fixing = subst (λ (f : Fixing). IsFixing i c.args.cuts f) c.in-Open.is c.in_ok-node.ensures.exact in
    let some : Some c.in-Some.field-0 ≡ lawful_split i c.args.cuts c.args.advised = sym c.in-Some.is ∙ c.in_ok-split.ensures in
    subst (λ (o : Option Splitting). MatchOption o (IsFixing i c.args.cuts (Open c.in-Some.field-0.class c.in-Some.field-0.m)) (λ s. IsFalse (is_settled i c.args.cuts) × (s ≡ record { class = c.in-Some.field-0.class; m = c.in-Some.field-0.m }))) some (fixing.0, refl)

pub returns-in-Some-clause-fits : goal.returns-in-Some-clause-fits
returns-in-Some-clause-fits c =
    split_fits c.args.instance.now c.args.cuts c.args.advised c.in-Some.field-0 (sym c.in_ok-split.ensures ∙ c.in-Some.is)

pub returns-in-None-clause-given : goal.returns-in-None-clause-given
returns-in-None-clause-given c =
    let i = c.args.instance.now in
    let fixing = subst (λ (f : Fixing). IsFixing i c.args.cuts f) c.in-Open.is c.in_ok-node.ensures.exact in
    let none : None ≡ lawful_split i c.args.cuts c.args.advised = sym c.in-None.is ∙ c.in_ok-split.ensures in
    subst (λ (o : Option Splitting). MatchOption o (IsFixing i c.args.cuts (Open c.in-Open.class c.in-Open.m)) (λ s. IsFalse (is_settled i c.args.cuts) × (s ≡ record { class = c.in-Open.class; m = c.in-Open.m }))) none fixing

pub returns-in-None-clause-fits : goal.returns-in-None-clause-fits
returns-in-None-clause-fits c =
    open_fits c.args.instance.now c.args.cuts c.in-Open.class c.in-Open.m (subst (λ (f : Fixing). IsFixing c.args.instance.now c.args.cuts f) c.in-Open.is c.in_ok-node.ensures.exact)
