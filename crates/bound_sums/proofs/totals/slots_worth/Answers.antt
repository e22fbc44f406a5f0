use Rattle.bound_sums.proofs.Common.{◌≡◌, ◌≤◌, ◌<◌, ◌+◌, ◌*◌, ◌^◌, ℕ, ℤ, pos, ◌+ℤ◌, get_or, to_z, of_z, sym, ap, ◌∙◌, arith, w64, to_z-of_z, fits_signed_from_abs, slots, price_of, worth_at, int_sum_below_more}
use Rattle.bound_sums.proofs.Sizes.{added_fits, added, added_small}
use Rattle.bound_sums.proofs.totals.slots_worth.Goals as goal

pub overflow_add-sum : goal.overflow_add-sum
overflow_add-sum c =
    let few : slots c.args.instance.now ≤ 2016 = c.requires.valid.few_slots in
    let here = c.slot_worth-sum.ensures.worth in
    added_fits _ c.slot_worth-sum.result _ c.loop-t.t (10 ^ 14) (record { sfits = c.slot_worth-sum.type_inv }) here c.slot_worth-sum.ensures.small c.loop-t.invariant.small (omega arith)

pub loop-t-preserved : goal.loop-t-preserved
loop-t-preserved c =
    let few : slots c.args.instance.now ≤ 2016 = c.requires.valid.few_slots in
    let f : ℕ → ℤ = λ t. worth_at c.args.instance.now t (price_of c.args.prices.now t) in
    let price : ℤ = get_or c.args.prices.now c.loop-t.t (pos 0) in
    let size = c.requires.small c.loop-t.t in
    let read : to_z w64 (of_z w64 price) ≡ price = to_z-of_z w64 price (fits_signed_from_abs w64 price (omega arith)) in
    let here : c.slot_worth-sum.result ≡ f c.loop-t.t = c.slot_worth-sum.ensures.worth ∙ ap (worth_at c.args.instance.now c.loop-t.t) read in
    let limit : (c.loop-t.t + 1) * 10 ^ 14 < 2 ^ 127 = omega arith in
    record {
      worth = added _ c.slot_worth-sum.result (f c.loop-t.t) c.loop-t.t (10 ^ 14) (record { sfits = c.slot_worth-sum.type_inv }) here c.slot_worth-sum.ensures.small c.loop-t.invariant.small limit
          ∙ ap (λ (z : ℤ). z +ℤ f c.loop-t.t) c.loop-t.invariant.worth ∙ sym (int_sum_below_more f c.loop-t.t);
      small = added_small _ c.slot_worth-sum.result (f c.loop-t.t) c.loop-t.t (10 ^ 14) (record { sfits = c.slot_worth-sum.type_inv }) here c.slot_worth-sum.ensures.small c.loop-t.invariant.small limit;
    }

pub returns-clause-small : goal.returns-clause-small
returns-clause-small c =
    let few : slots c.args.instance.now ≤ 2016 = c.requires.valid.few_slots in
    let end = c.loop-t.auto.t-end in
    let count = c.requires.count in
    let small = c.loop-t.invariant.small in
    omega arith
