use Rattle.pricing.proofs.Common.{rules, ◌≡◌, ap, sym, subst, ◌∙◌, FitsSigned, w128, slice_get, to_z-of_z, Rule, Shift, shift_list, IsShift, IsBest, IsBestRest, Priced, IsLegal, worth_of, some_at}
use Rattle.pricing.proofs.Worths.{some_of, short_shift, best_is, found_some}
use Rattle.pricing.proofs.search.best_without_graph.Goals as goal

pub returns-in-Some-clause-best : goal.returns-in-Some-clause-best
returns-in-Some-clause-best c =
    let i = c.args.instance.now in
    let bonus = c.args.bonus.now in
    let found = c.in-Some.found in
    let sums = c.in_ok-sums.sums.items in
    let some = some_of (slice_get (shift_list i) c.args.shift) (λ y. c.shift-len.result ≡ y.0) c.shift-len.ensures.shift in
    let x = some.0 in
    let shift : c.shift-len.result ≡ x.0 = some_at _ x (λ y. c.shift-len.result ≡ y.0) some.1 c.shift-len.ensures.shift in
    let rule : c.rule_of-rule.result.now ≡ x.1 = some_at _ x (λ y. c.rule_of-rule.result.now ≡ y.1) some.1 c.rule_of-rule.ensures.rule in
    let made : c.in_ok-rests.rests ≡ record { rule = x.1; len = x.0.len; sums = sums } =
    c.in_ok-rests.ensures ∙ ap (λ (r : Rule). record { rule = r; len = c.shift-len.result.len; sums = sums }) rule ∙ ap (λ (s : Shift). record { rule = x.1; len = s.len; sums = sums }) shift in
    let best : IsBestRest (IsLegal c.in_ok-rests.rests) (worth_of c.in_ok-rests.rests bonus) found.value found.list =
    found_some c.in_ok-rests.rests bonus c.in_ok-found.field-0 found c.in-Some.is c.in_ok-found.ensures in
    let own = subst (λ (p : Priced). IsBestRest (IsLegal p) (worth_of p bonus) found.value found.list) made best in
    let fits : FitsSigned w128 found.value = search rules in
    subst (IsBest i c.args.shift c.args.day c.args.prices.now bonus found.list) (sym (to_z-of_z w128 found.value fits))
    (best_is i c.args.shift c.args.day c.args.prices.now sums x some.1 (short_shift i x.0 c.shift-len.ensures.valid (subst (IsShift i) shift c.shift-len.ensures.within)) (c.in_ok-sums.ensures.prices x some.1) bonus found.list found.value own)
