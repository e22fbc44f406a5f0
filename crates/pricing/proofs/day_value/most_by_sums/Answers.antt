use Rattle.pricing.proofs.Common.{rules, ◌≡◌, ℤ, List, [], Option, false, subst, sym, MatchOption, w64, to_z-of_z, Break, is_legal, IsMostEarned, IsValue}
use Rattle.std.specs.Prelude.{FitsSigned}
use Rattle.pricing.proofs.Layered.{value_of_most}
use Rattle.pricing.proofs.day_value.most_by_sums.Goals as goal

pub returns-in-Some-2 : goal.returns-in-Some-2
returns-in-Some-2 c =
    let rule = c.args.rule.now in
    let len = c.args.len in
    let sums = c.args.sums.items in
    let value = c.in-Some-2.value in
    let most : IsMostEarned rule len sums [] value =
    subst (λ (o : Option ℤ). MatchOption o ((list : List Break) → is_legal rule len list ≡ false) (IsMostEarned rule len sums [])) c.in-Some-2.is c.in_ok-value.ensures in
    let fits : FitsSigned w64 value = search rules in
    subst (IsValue rule len sums []) (sym (to_z-of_z w64 value fits)) (value_of_most rule len sums value most)
