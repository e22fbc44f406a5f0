use Rattle.bound_sums.proofs.Common.{◌≤◌, ◌<◌, ◌+◌, ◌*◌, ◌^◌, ℕ, ℤ, ◌+ℤ◌, length, sym, ap, ◌∙◌, arith, shift_list, term, int_sum_below_more}
use Rattle.bound_sums.proofs.Sizes.{fits, added, added_small}
use Rattle.bound_sums.proofs.bounds.terms.Goals as goal

pub loop-shift-preserved : goal.loop-shift-preserved
loop-shift-preserved g c =
    let few : length (shift_list c.args.instance.now) ≤ 1024 = c.shifts.ensures.valid.shifts in
    let count = c.shifts.ensures.count in
    let inside = c.loop-shift-test.true in
    let f : ℕ → ℤ = term c.args.instance.now c.args.cuts.now c.args.prices.now in
    let limit : (c.loop-shift.shift + 1) * 2 ^ 94 < 2 ^ 127 = omega arith in
    let fit = fits c.in_ok-sum.field-0 (2 ^ 94) c.in_ok-sum.ensures.small (omega arith) in
    record {
      serves = c.shift_term.ensures.serves;
      sum = added _ c.in_ok-sum.field-0 (f c.loop-shift.shift) c.loop-shift.shift (2 ^ 94) fit c.in_ok-sum.ensures.term c.in_ok-sum.ensures.small c.loop-shift.invariant.small limit
          ∙ ap (λ (z : ℤ). z +ℤ f c.loop-shift.shift) c.loop-shift.invariant.sum ∙ sym (int_sum_below_more f c.loop-shift.shift);
      small = added_small _ c.in_ok-sum.field-0 (f c.loop-shift.shift) c.loop-shift.shift (2 ^ 94) fit c.in_ok-sum.ensures.term c.in_ok-sum.ensures.small c.loop-shift.invariant.small limit;
    }
