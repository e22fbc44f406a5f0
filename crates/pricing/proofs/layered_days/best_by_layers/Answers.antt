use Rattle.pricing.proofs.Common.{rules, ◌≡◌, ◌∙◌, ℤ, false, List, Option, subst, MatchOption, w64, w128, to_z-of_z, Break, is_legal, IsBestList, Priced}
use Rattle.std.specs.Prelude.{FitsSigned}
use Rattle.pricing.proofs.Layered.{plain_best}
use Rattle.pricing.proofs.layered_days.best_by_layers.Goals as goal

pub returns-in-Some : goal.returns-in-Some
returns-in-Some c =
    let at : Priced = record { rule = c.args.rule.now; len = c.args.len; sums = c.args.sums.items } in
    let known : MatchOption c.in_ok-list.field-0 ((list : List Break) → is_legal at.rule at.len list ≡ false) (IsBestList at.rule at.len at.sums) =
    subst (λ (p : Priced). MatchOption c.in_ok-list.field-0 ((list : List Break) → is_legal p.rule p.len list ≡ false) (IsBestList p.rule p.len p.sums)) c.in_ok-values.ensures c.in_ok-list.ensures in
    let found : IsBestList at.rule at.len at.sums (c.in-Some.list, c.in-Some.value) =
    subst (λ (o : Option (List Break × ℤ)). MatchOption o ((list : List Break) → is_legal at.rule at.len list ≡ false) (IsBestList at.rule at.len at.sums)) c.in-Some.is known in
    let fits : FitsSigned w64 c.in-Some.value = search rules in
    plain_best c.args.rule.now c.args.len c.args.sums.items c.in-Some.list c.in-Some.value _
    (to_z-of_z w128 c.from.result (record { sfits = c.from.type_inv }) ∙ c.from.ensures ∙ to_z-of_z w64 c.in-Some.value fits) found
