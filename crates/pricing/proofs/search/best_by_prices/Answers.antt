use Rattle.pricing.proofs.Common.{rules, ◌≡◌, ◌∙◌, ℤ, false, List, Option, subst, MatchOption, w64, w128, to_z-of_z, Break, is_legal, IsBestList}
use Rattle.std.specs.Prelude.{FitsSigned}
use Rattle.pricing.proofs.Layered.{plain_best}
use Rattle.pricing.proofs.search.best_by_prices.Goals as goal

pub returns-in-Some : goal.returns-in-Some
returns-in-Some g c =
    let p = g.R.Rests.priced c.args.rests.now in
    let found : IsBestList p.rule p.len p.sums (c.in-Some.list, c.in-Some.value) =
    subst (λ (o : Option (List Break × ℤ)). MatchOption o ((list : List Break) → is_legal p.rule p.len list ≡ false) (IsBestList p.rule p.len p.sums)) c.in-Some.is c.in_ok-list.ensures in
    let fits : FitsSigned w64 c.in-Some.value = search rules in
    plain_best p.rule p.len p.sums c.in-Some.list c.in-Some.value _
    (to_z-of_z w128 c.from-value.result (record { sfits = c.from-value.type_inv }) ∙ c.from-value.ensures ∙ to_z-of_z w64 c.in-Some.value fits) found
