use Rattle.pricing.proofs.Common.{◌≡◌, ℤ, List, ap, subst, ◌∙◌, to_z, of_z, w64, to_z-of_z, earned_from, price_in, PricedNodes}
use Rattle.pricing.proofs.rests.BestRestsRests.earned.Goals as goal

pub returns-clause-earned : goal.returns-clause-earned
returns-clause-earned c =
    let s = c.self.inside in
    let own : to_z w64 (of_z w64 c.earned_along.result) ≡ earned_from (price_in s.sums.items) s.rule.now s.len 0 c.args.list.now =
    to_z-of_z w64 c.earned_along.result (record { sfits = c.earned_along.type_inv }) ∙ c.earned_along.ensures.earned
    ∙ ap (λ (l : List ℤ). earned_from (price_in l) s.rule.now s.len 0 c.args.list.now) c.deref.ensures.value in
    subst (λ (v : PricedNodes). to_z w64 (of_z w64 c.earned_along.result) ≡ earned_from (price_in v.sums) v.rule v.len 0 c.args.list.now) c.self.view_is own
