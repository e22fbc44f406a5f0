use Rattle.pricing.proofs.Common.{rules, ◌≡◌, ◌∙◌, ℤ, List, [], Option, Some, None, false, refl, sym, ap, subst, MatchOption, IfSome, slice_get, w64, to_z-of_z, Break, is_legal, shift_list, AreSums, sums_on, IsMostOn, IsValue}
use Rattle.std.specs.Prelude.{FitsSigned}
use Rattle.pricing.proofs.Daily.{most_of_value, own_graph}
use Rattle.pricing.proofs.Followed.{sums_of_days}
use Rattle.pricing.proofs.day_value.most_on_day.Goals as goal

kept_graph : {X : Type 0} (o : Option X) (P Q : X → Type 0) → ((x : X) → P x → Q x) → MatchOption o (Unit {0}) P → IfSome o Q
kept_graph None P Q on held = tt
kept_graph (Some x) P Q on held = on x held

pub most_by_sums-requires-clause-graph : goal.most_by_sums-requires-clause-graph
most_by_sums-requires-clause-graph c =
    kept_graph c.walked_graph.result _ _
    (λ g own. own_graph (slice_get (shift_list c.args.instance.now) c.args.shift) c.shift-len.result c.rule_of-rule.result.now g.now g.now c.shift-len.ensures.shift c.rule_of-rule.ensures.rule own refl)
    c.walked_graph.ensures

pub most_by_sums-requires-clause-sums : goal.most_by_sums-requires-clause-sums
most_by_sums-requires-clause-sums c =
    subst (AreSums c.shift-len.result.len) (sym (c.in_ok-day_sums.ensures ∙ ap (λ d. sums_on d c.along-lanes.result.now) c.from.ensures))
    (sums_of_days c.args.instance.now c.args.shift c.args.sums.now.prices c.along-lanes.result.now c.shift-len.result c.shift-len.ensures.shift c.along-lanes.ensures c.args.day c.requires.day)

pub returns-in-Some : goal.returns-in-Some
returns-in-Some c =
    let i = c.args.instance.now in
    let s = c.args.shift in
    let day = c.args.day in
    let prices = c.args.sums.now.prices in
    let rule = c.rule_of-rule.result.now in
    let len = c.shift-len.result.len in
    let lanes = c.along-lanes.result.now in
    let sums : List ℤ = c.in_ok-day_sums.day_sums.items in
    let value = c.in-Some.value in
    let of : sums ≡ sums_on day lanes = c.in_ok-day_sums.ensures ∙ ap (λ d. sums_on d lanes) c.from.ensures in
    let found : IsValue rule len sums [] value =
    subst (λ (o : Option ℤ). MatchOption o ((list : List Break) → is_legal rule len list ≡ false) (IsValue rule len sums [])) c.in-Some.is c.in_ok-value.ensures in
    let fits : FitsSigned w64 value = search rules in
    subst (IsMostOn i s day prices) (sym (to_z-of_z w64 value fits))
    (most_of_value i s prices lanes c.shift-len.result rule day value c.shift-len.ensures.shift c.rule_of-rule.ensures.rule c.shift-len.ensures.valid c.shift-len.ensures.within c.along-lanes.ensures c.requires.day
    (subst (λ (of : List ℤ). IsValue rule len of [] value) of found))
