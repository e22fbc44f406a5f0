use Rattle.advisers.proofs.Common.{◌≡◌, ◌≤◌, ◌<◌, ◌+◌, ◌*◌, ◌^◌, ℕ, ℤ, pos, ◌+ℤ◌, ◌*ℤ◌, Bool, ◌||◌, nat_lt, List, length, to_z, of_z, sym, ap, ◌∙◌, subst, arith, w128, list_any, int_max, to_z-of_z, int_sum_by, Problem, below, shift_list, Cut, Prices, low, whole_class, best_value, free_day_value, fits, added, added_small}
use Rattle.shift_instance.proofs.Ranges.{int_sum_below_more, any_below_more}
use Rattle.advisers.proofs.Choices.{chosen_is}
use Rattle.advisers.proofs.choosing.is_used.Goals as goal

pub value_on-value-requires-clause-shift : goal.value_on-value-requires-clause-shift
value_on-value-requires-clause-shift c = subst (λ (p : Problem). c.args.shift < length (shift_list p)) (sym c.requires.pricer.0) c.requires.shift

pub value_on-value-requires-clause-day : goal.value_on-value-requires-clause-day
value_on-value-requires-clause-day c =
    let end = c.days-day-end.ensures.days in
    let inside = c.loop-day-test.true in
    let less : c.loop-day.day < c.args.instance.now.days = omega arith in
    subst (λ (p : Problem). c.loop-day.day < p.days) (sym c.requires.pricer.0) less

pub loop-day-preserved : goal.loop-day-preserved
loop-day-preserved c =
    let i = c.args.instance.now in
    let cuts = c.args.cuts.now in
    let prices = c.args.pricer.now.prices in
    let s = c.args.shift in
    let day = c.loop-day.day in
    let v : ℤ = c.value_on-value.result in
    let own = c.requires.pricer in
    let is : v ≡ best_value i cuts prices s day =
    c.value_on-value.ensures.value ∙ ap (λ (p : Problem). best_value p c.args.pricer.now.cuts prices s day) own.0 ∙ ap (λ (cs : List Cut). best_value i cs prices s day) own.1 in
    let read : to_z w128 (of_z w128 v) ≡ v = to_z-of_z w128 v (fits v (2 ^ 74) c.value_on-value.ensures.small (omega arith)) in
    let days : i.days ≤ 7 = c.weights-cost.ensures.valid.days in
    let end = c.days-day-end.ensures.days in
    let inside = c.loop-day-test.true in
    let limit : (day + 1) * 2 ^ 90 < 2 ^ 127 = omega arith in
    let least = c.whole_range-least.result.0 in
    let most = c.whole_range-least.result.1 in
    let g : ℕ → ℤ = free_day_value i cuts prices s in
    let needs : ℕ → Bool = λ d. nat_lt 0 (low cuts (whole_class s d)) in
    let of_free : c.free_value-free.result ≡ g day =
    c.free_value-free.ensures.value ∙ ap (λ (z : ℤ). int_max (pos 0) (z *ℤ pos most)) (read ∙ is) ∙ ap (λ (n : ℕ). int_max (pos 0) (best_value i cuts prices s day *ℤ pos n)) c.whole_range-least.ensures.high in
    let fit_free = fits c.free_value-free.result (2 ^ 90) c.free_value-free.ensures.small (omega arith) in
    record {
      forced = c.needs_duty-is_forced.ensures ∙ ap (λ (n : ℕ). c.loop-day.is_forced || nat_lt 0 n) c.whole_range-least.ensures.low
          ∙ ap (λ (b : Bool). b || needs day) c.loop-day.invariant.forced ∙ sym (any_below_more needs day);
      worth = added _ c.free_value-free.result (g day) day (2 ^ 90) fit_free of_free c.free_value-free.ensures.small c.loop-day.invariant.small limit
          ∙ ap (λ (z : ℤ). z +ℤ g day) c.loop-day.invariant.worth ∙ sym (int_sum_below_more g day);
      small = added_small _ c.free_value-free.result (g day) day (2 ^ 90) fit_free of_free c.free_value-free.ensures.small c.loop-day.invariant.small limit;
    }

pub returns : goal.returns
returns c =
    let i = c.args.instance.now in
    let cuts = c.args.cuts.now in
    let prices = c.args.pricer.now.prices in
    let s = c.args.shift in
    let days = c.days-day-end.ensures.days in
    let last = c.loop-day-test.false in
    let first = c.loop-day.auto.day-end in
    let all : c.loop-day.day ≡ i.days = omega arith in
    let paid : c.from.result * c.from-2.result ≡ prices.q * i.shift =
    ap (λ (n : ℕ). n * c.from-2.result) (c.from.ensures ∙ ap (λ (p : Prices). p.q) c.prices.ensures.prices)
    ∙ ap (λ (n : ℕ). prices.q * n) (c.from-2.ensures ∙ ap (λ (w : ℕ × ℕ × ℕ). w.2) c.weights-cost.ensures.weights) in
    chosen_is i cuts prices s c.is_chosen.result c.loop-day.is_forced (c.from.result * c.from-2.result) _ c.is_chosen.ensures
    (c.loop-day.invariant.forced ∙ ap (λ (n : ℕ). list_any (λ (d : ℕ). nat_lt 0 (low cuts (whole_class s d))) (below n)) all)
    paid
    (c.loop-day.invariant.worth ∙ ap (λ (n : ℕ). int_sum_by (free_day_value i cuts prices s) (below n)) all)
