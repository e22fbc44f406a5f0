use Rattle.bound_sums.proofs.Common.{◌≡◌, ◌≤◌, ◌<◌, ◌+◌, ◌*◌, ◌^◌, ℕ, ℤ, pos, ◌+ℤ◌, ◌*ℤ◌, Bool, ◌||◌, nat_lt, to_z, of_z, get_or, sym, ap, ◌∙◌, subst, arith, w128, list_any, int_max, to_z-of_z, int_sum_by, below, low, whole_class, day_value, free_day_value, IsValue, int_sum_below_more, any_below_more}
use Rattle.bound_sums.proofs.Sizes.{fits, added, added_small}
use Rattle.bound_sums.proofs.ShiftTerms.{day_worth, free_worth, term_is}
use Rattle.bound_sums.proofs.terms.term.Goals as goal

pub loop-day-preserved : goal.loop-day-preserved
loop-day-preserved c =
    let i = c.args.instance.now in
    let cuts = c.args.cuts.now in
    let prices = c.args.prices.now in
    let s = c.args.shift in
    let day = c.loop-day.day in
    let v : ℤ = get_or c.args.values.now c.from.result (pos 0) in
    let value : IsValue i cuts prices s day v = subst (λ (n : ℕ). IsValue i cuts prices s day (get_or c.args.values.now n (pos 0))) (sym c.from.ensures) (c.requires.values.each day (omega arith)) in
    let read : to_z w128 (of_z w128 v) ≡ v = to_z-of_z w128 v (fits v (2 ^ 74) value.small (omega arith)) in
    let days : i.days ≤ 7 = c.weights-cost.ensures.valid.days in
    let end = c.days-day-end.ensures.days in
    let inside = c.loop-day-test.true in
    let limit : (day + 1) * 2 ^ 90 < 2 ^ 127 = omega arith in
    let lo = c.range_on-low.result.0 in
    let hi = c.range_on-low.result.1 in
    let f : ℕ → ℤ = day_value i cuts prices s in
    let g : ℕ → ℤ = free_day_value i cuts prices s in
    let needs : ℕ → Bool = λ d. nat_lt 0 (low cuts (whole_class s d)) in
    let of_range : c.ranged_value-ranged.result ≡ f day =
    c.ranged_value-ranged.ensures.value ∙ ap (λ (z : ℤ). int_max (z *ℤ pos lo) (z *ℤ pos hi)) read ∙ day_worth i cuts prices s day v lo hi value c.range_on-low.ensures.low c.range_on-low.ensures.high in
    let of_free : c.free_value-free.result ≡ g day =
    c.free_value-free.ensures.value ∙ ap (λ (z : ℤ). int_max (pos 0) (z *ℤ pos hi)) read ∙ free_worth i cuts prices s day v lo hi value c.range_on-low.ensures.low c.range_on-low.ensures.high in
    let fit = fits c.ranged_value-ranged.result (2 ^ 90) c.ranged_value-ranged.ensures.small (omega arith) in
    let fit_free = fits c.free_value-free.result (2 ^ 90) c.free_value-free.ensures.small (omega arith) in
    record {
      forced = c.needs_duty-is_forced.ensures ∙ ap (λ (n : ℕ). c.loop-day.is_forced || nat_lt 0 n) c.range_on-low.ensures.low
          ∙ ap (λ (b : Bool). b || needs day) c.loop-day.invariant.forced ∙ sym (any_below_more needs day);
      worth = added _ c.ranged_value-ranged.result (f day) day (2 ^ 90) fit of_range c.ranged_value-ranged.ensures.small c.loop-day.invariant.small limit
          ∙ ap (λ (z : ℤ). z +ℤ f day) c.loop-day.invariant.worth ∙ sym (int_sum_below_more f day);
      free_worth = added _ c.free_value-free.result (g day) day (2 ^ 90) fit_free of_free c.free_value-free.ensures.small c.loop-day.invariant.free_small limit
          ∙ ap (λ (z : ℤ). z +ℤ g day) c.loop-day.invariant.free_worth ∙ sym (int_sum_below_more g day);
      small = added_small _ c.ranged_value-ranged.result (f day) day (2 ^ 90) fit of_range c.ranged_value-ranged.ensures.small c.loop-day.invariant.small limit;
      free_small = added_small _ c.free_value-free.result (g day) day (2 ^ 90) fit_free of_free c.free_value-free.ensures.small c.loop-day.invariant.free_small limit;
    }

pub returns-clause-term : goal.returns-clause-term
returns-clause-term c =
    let i = c.args.instance.now in
    let cuts = c.args.cuts.now in
    let prices = c.args.prices.now in
    let s = c.args.shift in
    let some_days = c.weights-cost.ensures.valid.some_days in
    let days = c.days-day-end.ensures.days in
    let last = c.loop-day-test.false in
    let first = c.loop-day.auto.day-end in
    let all : c.loop-day.day ≡ i.days = omega arith in
    let paid : c.from-2.result * c.from-3.result ≡ prices.q * i.shift =
    ap (λ (n : ℕ). n * c.from-3.result) c.from-2.ensures ∙ ap (λ (n : ℕ). prices.q * n) (c.from-3.ensures ∙ ap (λ (w : ℕ × ℕ × ℕ). w.2) c.weights-cost.ensures.weights) in
    to_z-of_z w128 c.term_of.result (fits c.term_of.result (2 ^ 94) c.term_of.ensures.small (omega arith))
    ∙ term_is i cuts prices s c.term_of.result _ _ c.loop-day.is_forced (c.from-2.result * c.from-3.result) ((c.requires.values.each 0 (omega arith)).some) c.term_of.ensures.term
    (c.loop-day.invariant.forced ∙ ap (λ (n : ℕ). list_any (λ (d : ℕ). nat_lt 0 (low cuts (whole_class s d))) (below n)) all)
    (c.loop-day.invariant.worth ∙ ap (λ (n : ℕ). int_sum_by (day_value i cuts prices s) (below n)) all)
    (c.loop-day.invariant.free_worth ∙ ap (λ (n : ℕ). int_sum_by (free_day_value i cuts prices s) (below n)) all)
    paid
