use Rattle.descents.proofs.Common.{◌≡◌, ◌+◌, ◌*◌, ◌≤◌, ◌≤ℤ◌, ◌∙◌, ◌∷◌, ◌++◌, [], ℕ, ℤ, neg_ℤ, pos, FitsSigned, to_z, of_z, w64, sym, subst, rules, to_z-of_z, cost, rota_of, duty, marginal_prices, IsWithin, none_at, found_at, best_missing, fee}
use mir.Syntax.{w128}
use Rattle.descents.proofs.OneMore.{best_duty_is, same_cost_with}
use Rattle.descents.proofs.best.best_duty.Goals as goal

pub overflow_cast-earned : goal.overflow_cast-earned
overflow_cast-earned c =
    let i = c.args.instance.now in
    let rota = rota_of c.args.draft.now.rows in
    let value = c.in-Some.value in
    let same : c.deref.result.now ≡ marginal_prices i rota = c.deref.ensures.value ∙ c.in_ok-prices.ensures.prices in
    let found = found_at i c.deref.result.now c.args.shift c.args.day c.in_ok-pattern.field-0 c.in-Some.pattern value _ c.in-Some.is c.in_ok-pattern.ensures.best in
    let f = best_duty_is i rota c.args.shift c.args.day c.deref.result.now c.in-Some.pattern.list value c.in_ok-prices.ensures.small.valid c.requires.shift same found in
    let low : neg_ℤ (pos 2016000000) ≤ℤ value = f.small.above in
    let high : value ≤ℤ pos 2016000000 = f.small.below in
    let wide : FitsSigned w128 value = search rules in
    let fits : FitsSigned w64 value = search rules in
    subst (FitsSigned w64) (sym (to_z-of_z w128 value wide)) fits

pub cost_with-cost-requires-clause-small : goal.cost_with-cost-requires-clause-small
cost_with-cost-requires-clause-small c =
    let i = c.args.instance.now in
    let rota = rota_of c.args.draft.now.rows in
    let value = c.in-Some.value in
    let same : c.deref.result.now ≡ marginal_prices i rota = c.deref.ensures.value ∙ c.in_ok-prices.ensures.prices in
    let found = found_at i c.deref.result.now c.args.shift c.args.day c.in_ok-pattern.field-0 c.in-Some.pattern value _ c.in-Some.is c.in_ok-pattern.ensures.best in
    let f = best_duty_is i rota c.args.shift c.args.day c.deref.result.now c.in-Some.pattern.list value c.in_ok-prices.ensures.small.valid c.requires.shift same found in
    let low : neg_ℤ (pos 2016000000) ≤ℤ value = f.small.above in
    let high : value ≤ℤ pos 2016000000 = f.small.below in
    let wide : FitsSigned w128 value = search rules in
    let once : to_z w128 (of_z w128 value) ≡ value = to_z-of_z w128 value wide in
    let fits : FitsSigned w64 (to_z w128 (of_z w128 value)) = subst (FitsSigned w64) (sym once) (search rules) in
    let twice : to_z w64 (of_z w64 (to_z w128 (of_z w128 value))) ≡ value = to_z-of_z w64 (to_z w128 (of_z w128 value)) fits ∙ once in
    subst (λ (z : ℤ). IsWithin (2016 * 1000000) z) (sym twice) f.small

pub cost_with-cost-requires-clause-value : goal.cost_with-cost-requires-clause-value
cost_with-cost-requires-clause-value c =
    let i = c.args.instance.now in
    let rota = rota_of c.args.draft.now.rows in
    let value = c.in-Some.value in
    let same : c.deref.result.now ≡ marginal_prices i rota = c.deref.ensures.value ∙ c.in_ok-prices.ensures.prices in
    let found = found_at i c.deref.result.now c.args.shift c.args.day c.in_ok-pattern.field-0 c.in-Some.pattern value _ c.in-Some.is c.in_ok-pattern.ensures.best in
    let f = best_duty_is i rota c.args.shift c.args.day c.deref.result.now c.in-Some.pattern.list value c.in_ok-prices.ensures.small.valid c.requires.shift same found in
    let low : neg_ℤ (pos 2016000000) ≤ℤ value = f.small.above in
    let high : value ≤ℤ pos 2016000000 = f.small.below in
    let wide : FitsSigned w128 value = search rules in
    let once : to_z w128 (of_z w128 value) ≡ value = to_z-of_z w128 value wide in
    let fits : FitsSigned w64 (to_z w128 (of_z w128 value)) = subst (FitsSigned w64) (sym once) (search rules) in
    let twice : to_z w64 (of_z w64 (to_z w128 (of_z w128 value))) ≡ value = to_z-of_z w64 (to_z w128 (of_z w128 value)) fits ∙ once in
    subst (λ (z : ℤ). z ≤ℤ pos (cost i rota + fee i rota c.args.shift)) (sym twice) f.most

pub returns-in-Some-clause-list : goal.returns-in-Some-clause-list
returns-in-Some-clause-list c =
    let i = c.args.instance.now in
    let rota = rota_of c.args.draft.now.rows in
    let value = c.in-Some.value in
    let same : c.deref.result.now ≡ marginal_prices i rota = c.deref.ensures.value ∙ c.in_ok-prices.ensures.prices in
    let found = found_at i c.deref.result.now c.args.shift c.args.day c.in_ok-pattern.field-0 c.in-Some.pattern value _ c.in-Some.is c.in_ok-pattern.ensures.best in
    let f = best_duty_is i rota c.args.shift c.args.day c.deref.result.now c.in-Some.pattern.list value c.in_ok-prices.ensures.small.valid c.requires.shift same found in
    sym f.first

pub returns-in-Some-clause-cost : goal.returns-in-Some-clause-cost
returns-in-Some-clause-cost c =
    let i = c.args.instance.now in
    let rota = rota_of c.args.draft.now.rows in
    let value = c.in-Some.value in
    let same : c.deref.result.now ≡ marginal_prices i rota = c.deref.ensures.value ∙ c.in_ok-prices.ensures.prices in
    let found = found_at i c.deref.result.now c.args.shift c.args.day c.in_ok-pattern.field-0 c.in-Some.pattern value _ c.in-Some.is c.in_ok-pattern.ensures.best in
    let f = best_duty_is i rota c.args.shift c.args.day c.deref.result.now c.in-Some.pattern.list value c.in_ok-prices.ensures.small.valid c.requires.shift same found in
    let low : neg_ℤ (pos 2016000000) ≤ℤ value = f.small.above in
    let high : value ≤ℤ pos 2016000000 = f.small.below in
    let wide : FitsSigned w128 value = search rules in
    let once : to_z w128 (of_z w128 value) ≡ value = to_z-of_z w128 value wide in
    let fits : FitsSigned w64 (to_z w128 (of_z w128 value)) = subst (FitsSigned w64) (sym once) (search rules) in
    let twice : to_z w64 (of_z w64 (to_z w128 (of_z w128 value))) ≡ value = to_z-of_z w64 (to_z w128 (of_z w128 value)) fits ∙ once in
    let own = rota ++ duty c.args.shift c.args.day c.in-Some.pattern.list ∷ [] in
    let exact : c.cost_with-cost.result ≡ cost i own = same_cost_with (cost i own) c.cost_with-cost.result (cost i rota + fee i rota c.args.shift) value _ f.exact c.cost_with-cost.ensures twice in
    exact

pub returns-in-Some-clause-legal : goal.returns-in-Some-clause-legal
returns-in-Some-clause-legal c =
    let i = c.args.instance.now in
    let rota = rota_of c.args.draft.now.rows in
    let value = c.in-Some.value in
    let same : c.deref.result.now ≡ marginal_prices i rota = c.deref.ensures.value ∙ c.in_ok-prices.ensures.prices in
    let found = found_at i c.deref.result.now c.args.shift c.args.day c.in_ok-pattern.field-0 c.in-Some.pattern value _ c.in-Some.is c.in_ok-pattern.ensures.best in
    let f = best_duty_is i rota c.args.shift c.args.day c.deref.result.now c.in-Some.pattern.list value c.in_ok-prices.ensures.small.valid c.requires.shift same found in
    f.legal

pub returns-in-Some-clause-least : goal.returns-in-Some-clause-least
returns-in-Some-clause-least c =
    let i = c.args.instance.now in
    let rota = rota_of c.args.draft.now.rows in
    let value = c.in-Some.value in
    let same : c.deref.result.now ≡ marginal_prices i rota = c.deref.ensures.value ∙ c.in_ok-prices.ensures.prices in
    let found = found_at i c.deref.result.now c.args.shift c.args.day c.in_ok-pattern.field-0 c.in-Some.pattern value _ c.in-Some.is c.in_ok-pattern.ensures.best in
    let f = best_duty_is i rota c.args.shift c.args.day c.deref.result.now c.in-Some.pattern.list value c.in_ok-prices.ensures.small.valid c.requires.shift same found in
    let low : neg_ℤ (pos 2016000000) ≤ℤ value = f.small.above in
    let high : value ≤ℤ pos 2016000000 = f.small.below in
    let wide : FitsSigned w128 value = search rules in
    let once : to_z w128 (of_z w128 value) ≡ value = to_z-of_z w128 value wide in
    let fits : FitsSigned w64 (to_z w128 (of_z w128 value)) = subst (FitsSigned w64) (sym once) (search rules) in
    let twice : to_z w64 (of_z w64 (to_z w128 (of_z w128 value))) ≡ value = to_z-of_z w64 (to_z w128 (of_z w128 value)) fits ∙ once in
    let own = rota ++ duty c.args.shift c.args.day c.in-Some.pattern.list ∷ [] in
    let exact : c.cost_with-cost.result ≡ cost i own = same_cost_with (cost i own) c.cost_with-cost.result (cost i rota + fee i rota c.args.shift) value _ f.exact c.cost_with-cost.ensures twice in
    λ list legal. subst (λ (n : ℕ). n ≤ cost i (rota ++ duty c.args.shift c.args.day list ∷ [])) (sym exact) (f.least list legal)

pub returns-clause-list : goal.returns-clause-list
returns-clause-list c =
    let i = c.args.instance.now in
    let rota = rota_of c.args.draft.now.rows in
    sym (best_missing i (marginal_prices i rota) c.args.shift c.args.day (none_at c.in_ok-pattern.field-0 _ c.in-None.is c.in_ok-pattern.ensures.best))
