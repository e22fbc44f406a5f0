use Rattle.dual_bound.proofs.Common.{List, sym, ap, ◌∙◌, subst, Problem, Cut, AreAllKept, IsPriced, Pricing}
use Rattle.dual_bound.proofs.Causes.{passes}
use Rattle.dual_bound.proofs.pricer.Pricer.new.Goals as goal

pub first_bests-requires-clause-passes : goal.first_bests-requires-clause-passes
first_bests-requires-clause-passes g c = passes c.args.instance.now c.args.cuts.now c.args.prices c.in_ok-judge.ensures.fault

pub invariant_of-result : goal.invariant_of-result
invariant_of-result g c =
    let whole : Problem → List Cut → Type 0 = λ i cuts. IsPriced (record { instance = i; cuts = cuts; prices = c.args.prices }) c.in-Ok.bounded.bound c.in-Ok.bounded.bests.shifts.items × AreAllKept i c.in-Ok.tables.items in
    let copy = c.in-Ok-copy_of.cuts in
    subst (λ i. whole i copy) (sym c.of.ensures) (subst (whole c.args.instance.now) (sym c.in-Ok-copy_of.ensures) (c.in-Ok.ensures.priced, c.in-Ok.ensures.kept))

pub returns-clause-ok : goal.returns-clause-ok
returns-clause-ok g c =
    let at : Problem → List Cut → Pricing = λ i cuts. record { instance = i; cuts = cuts; prices = c.args.prices } in
    ap (λ i. at i c.in-Ok-copy_of.cuts) c.of.ensures ∙ ap (at c.args.instance.now) c.in-Ok-copy_of.ensures
