use Rattle.greedy.proofs.Common.{◌≡◌, ◌≤◌, ◌≤ℤ◌, ◌∙◌, ◌+◌, ◌*◌, ℕ, ℤ, pos, neg_ℤ, ◌+ℤ◌, to_z, of_z, refl, sym, ap, ◌<◌, subst, arith, true, false, ints, day_value, is_wanted, marginal_prices, IsWithin}
use Rattle.std.proofs.Common.{w64}
use Rattle.greedy.proofs.DayValues.{value_small}
use Rattle.greedy.proofs.Rounding.{counts_is, gain_more, gain_all, prices_small, within_more, within_same}
use Rattle.greedy.proofs.gains.gain.Goals as goal
use Rattle.greedy.proofs.gains.gain.Goals.{then-is_wanted, else-is_wanted}

pub value_on-value-requires-clause-small : goal.value_on-value-requires-clause-small
value_on-value-requires-clause-small c =
    let i = c.args.instance.now in
    let rota = c.args.draft.now.cover.duties in
    let prices = marginal_prices i rota in
    subst (IsWithin 2016000000) (sym (c.requires.values c.loop-day.day (omega (arith, c.days-day-end.ensures.days)))) (value_small i prices c.args.shift c.loop-day.day (prices_small i rota prices c.requires.draft.valid refl))

pub overflow_add-gain : goal.overflow_add-gain
overflow_add-gain c =
    let i = c.args.instance.now in
    let rota = c.args.draft.now.cover.duties in
    let prices = marginal_prices i rota in
    let value = c.value_on-value.result in
    let gain = to_z w64 c.loop-day.gain-bits in
    let days : i.days ≤ 7 = c.days-day-end.ensures.valid.days in
    let on : c.loop-day.day < i.days = omega (arith, c.days-day-end.ensures.days) in
    let is : value ≡ day_value i prices c.args.shift c.loop-day.day = c.value_on-value.ensures ∙ c.requires.values c.loop-day.day on in
    let little = subst (IsWithin 2016000000) (sym is) (value_small i prices c.args.shift c.loop-day.day (prices_small i rota prices c.requires.draft.valid refl)) in
    let a : neg_ℤ (pos (c.loop-day.day * 2016000000)) ≤ℤ gain = c.loop-day.invariant.small.above in
    let b : gain ≤ℤ pos (c.loop-day.day * 2016000000) = c.loop-day.invariant.small.below in
    let p : neg_ℤ (pos 2016000000) ≤ℤ value = little.above in
    let q : value ≤ℤ pos 2016000000 = little.below in
    omega (arith, ints)

pub loop-day-preserved : goal.loop-day-preserved
loop-day-preserved c =
    let i = c.args.instance.now in
    let rota = c.args.draft.now.cover.duties in
    let prices = marginal_prices i rota in
    let gain = to_z w64 c.loop-day.gain-bits in
    let value = c.value_on-value.result in
    let is : value ≡ day_value i prices c.args.shift c.loop-day.day = c.value_on-value.ensures ∙ c.requires.values c.loop-day.day (omega (arith, c.days-day-end.ensures.days)) in
    let little = subst (IsWithin 2016000000) (sym is) (value_small i prices c.args.shift c.loop-day.day (prices_small i rota prices c.requires.draft.valid refl)) in
    let day = c.loop-day.day in
    let days : i.days ≤ 7 = c.days-day-end.ensures.valid.days in
    let a : neg_ℤ (pos (day * 2016000000)) ≤ℤ gain = c.loop-day.invariant.small.above in
    let b : gain ≤ℤ pos (day * 2016000000) = c.loop-day.invariant.small.below in
    let p : neg_ℤ (pos 2016000000) ≤ℤ value = little.above in
    let q : value ≤ℤ pos 2016000000 = little.below in
    let same : to_z w64 (of_z w64 value) ≡ value = omega (arith, ints) in
    let counted = counts_is i rota prices c.args.shift day c.heads_on.result value c.is_wanted.result (c.is_wanted.ensures ∙ ap (is_wanted i c.heads_on.result) same) c.heads_on.ensures is refl in
    elim c.if-is_wanted.branch [
      | then-is_wanted w ↦
          let e : to_z w64 c.if-is_wanted.gain-bits ≡ gain +ℤ value = omega (arith, ints, w.gain-is) in
          record {
            gain = gain_more i rota prices c.args.shift day gain value _ true c.loop-day.invariant.gain (counted ∙ w.if-is_wanted.true) is refl e;
            small = subst (λ (z : ℤ). IsWithin ((day + 1) * 2016000000) z) (sym e) (within_more day 2016000000 gain value c.loop-day.invariant.small little);
          }
      | else-is_wanted w ↦
          let e : to_z w64 c.if-is_wanted.gain-bits ≡ gain = omega (arith, ints, w.gain-is) in
          record {
            gain = gain_more i rota prices c.args.shift day gain value _ false c.loop-day.invariant.gain (counted ∙ w.if-is_wanted.false) is refl (omega (arith, ints, w.gain-is));
            small = subst (λ (z : ℤ). IsWithin ((day + 1) * 2016000000) z) (sym e) (within_same day 2016000000 gain c.loop-day.invariant.small);
          }
    ]

pub returns-then-is_used : goal.returns-then-is_used
returns-then-is_used c =
    let i = c.args.instance.now in
    gain_all i c.args.draft.now.cover.duties c.args.shift c.loop-day.day (to_z w64 c.loop-day.gain-bits) _ true c.loop-day.invariant.gain (omega (arith, c.days-day-end.ensures.days))
    (sym c.if-is_used.true ∙ c.is_used.ensures) (omega (arith, ints))

pub returns : goal.returns
returns c =
    let i = c.args.instance.now in
    let gain = to_z w64 c.loop-day.gain-bits in
    let days : i.days ≤ 7 = c.days-day-end.ensures.valid.days in
    let weight : i.shift ≤ 1000000 = c.days-day-end.ensures.valid.shift in
    let a : neg_ℤ (pos (c.loop-day.day * 2016000000)) ≤ℤ gain = c.loop-day.invariant.small.above in
    let b : gain ≤ℤ pos (c.loop-day.day * 2016000000) = c.loop-day.invariant.small.below in
    let w : c.from.result ≡ pos i.shift = c.from.ensures ∙ ap (λ (t : ℕ × ℕ × ℕ). pos t.2) c.weights-weight.ensures.weights in
    gain_all i c.args.draft.now.cover.duties c.args.shift c.loop-day.day gain _ false c.loop-day.invariant.gain (omega (arith, c.days-day-end.ensures.days))
    (sym c.if-is_used.false ∙ c.is_used.ensures) (omega (arith, ints))
