use Rattle.dual_bound.proofs.Common.{sym, subst, arith, AreMostByDay, IsMostOn}
use Rattle.dual_bound.proofs.Values.{at_some}
use Rattle.dual_bound.proofs.terms.values_by_walk.Goals as goal

pub returns-in-Some : goal.returns-in-Some
returns-in-Some c =
    let i = c.args.instance.now in
    let s = c.args.shift in
    let prices = c.args.sums.now.prices in
    let most : AreMostByDay i s prices i.days c.in-Some.most = at_some c.in_ok-most.field-0 c.in-Some.most _ _ c.in-Some.is c.in_ok-most.ensures in
    let week = c.requires.valid.days in
    record { each = λ day less. subst (IsMostOn i s day prices) (sym (c.values_of_lane.ensures day (omega (arith, less, week)))) (most.each day less) }
