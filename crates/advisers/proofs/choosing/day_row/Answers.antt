use Rattle.advisers.proofs.Common.{◌≡◌, ◌<◌, ◌^◌, ◌∷◌, [], ℤ, List, true, length, to_z, of_z, sym, ap, subst, ◌∙◌, arith, w128, to_z-of_z, Break, Problem, shift_list, lists_of, rota_of, is_nil, fits, IsBestOn, number_of}
use Rattle.advisers.proofs.Choices.{best_of, duties_on_none, none_is, row_is}
use Rattle.advisers.proofs.choosing.day_row.Goals as goal

pub best-requires-clause-shift : goal.best-requires-clause-shift
best-requires-clause-shift c = subst (λ (p : Problem). c.args.shift < length (shift_list p)) (sym c.requires.pricer.0) c.requires.shift

pub best-requires-clause-day : goal.best-requires-clause-day
best-requires-clause-day c = subst (λ (p : Problem). c.args.day < p.days) (sym c.requires.pricer.0) c.requires.day

pub returns-in_default-clause-duties : goal.returns-in_default-clause-duties
returns-in_default-clause-duties c =
    let i = c.args.instance.now in
    let none : is_nil (lists_of i c.args.shift) ≡ true = subst (λ (p : Problem). is_nil (lists_of p c.args.shift) ≡ true) c.requires.pricer.0 c.in_default.ensures.best in
    sym (duties_on_none i c.args.cuts.now c.args.pricer.now.prices c.args.shift c.args.day none)

pub returns-then-count-eq0-clause-duties : goal.returns-then-count-eq0-clause-duties
returns-then-count-eq0-clause-duties c =
    let i = c.args.instance.now in
    let cuts = c.args.cuts.now in
    let prices = c.args.pricer.now.prices in
    let s = c.args.shift in
    let day = c.args.day in
    let v : ℤ = c.in-Some.value in
    let least = c.whole_range-least.result.0 in
    let most = c.whole_range-least.result.1 in
    let best : IsBestOn i cuts prices s day c.in-Some.list.now v = best_of c.args.pricer.now i cuts c.requires.pricer s day c.in-Some.list.now v c.in-Some.ensures.best in
    let read : to_z w128 (of_z w128 v) ≡ v = to_z-of_z w128 v (fits v (2 ^ 74) best.valued.small (omega arith)) in
    none_is i cuts prices s day c.number_of-count.result least most v best.valued (c.number_of-count.ensures ∙ ap (λ (z : ℤ). number_of z least most) read) c.whole_range-least.ensures.low c.whole_range-least.ensures.high
    c.if-count-eq0.true

pub returns-clause-duties : goal.returns-clause-duties
returns-clause-duties c =
    let i = c.args.instance.now in
    let cuts = c.args.cuts.now in
    let prices = c.args.pricer.now.prices in
    let s = c.args.shift in
    let day = c.args.day in
    let v : ℤ = c.in-Some.value in
    let list : List Break = c.in-Some.list.now in
    let least = c.whole_range-least.result.0 in
    let most = c.whole_range-least.result.1 in
    let count = c.number_of-count.result in
    let best : IsBestOn i cuts prices s day list v = best_of c.args.pricer.now i cuts c.requires.pricer s day list v c.in-Some.ensures.best in
    let read : to_z w128 (of_z w128 v) ≡ v = to_z-of_z w128 v (fits v (2 ^ 74) best.valued.small (omega arith)) in
    let copied : c.new-breaks.result ≡ list = c.new-breaks.ensures ∙ c.in_ok-from_slice.ensures.items in
    ap (λ (l : List Break). rota_of (record { shift = s; day = day; breaks = l; count = count } ∷ [])) copied
    ∙ row_is i cuts prices s day count least most list v v best best.valued (c.number_of-count.ensures ∙ ap (λ (z : ℤ). number_of z least most) read) c.whole_range-least.ensures.low c.whole_range-least.ensures.high
