use Rattle.bound_sums.proofs.Common.{◌<◌, ◌+◌, ◌*◌, ◌^◌, ℤ, ◌+ℤ◌, get_or, ap, ◌∙◌, arith, int_sum_by, cut_worth}
use Rattle.bound_sums.proofs.Sizes.{added_fits, added, added_small}
use Rattle.bound_sums.proofs.Pairs.{pairs_from, sum_next}
use Rattle.bound_sums.proofs.totals.cuts_worth.Goals as goal

pub overflow_add-sum : goal.overflow_add-sum
overflow_add-sum c =
    let few = c.requires.few in
    let inside = c.loop-k-test.true in
    added_fits _ c.cut_worth-sum.result _ c.loop-k.k (2 ^ 56) (record { sfits = c.cut_worth-sum.type_inv }) c.cut_worth-sum.ensures.worth c.cut_worth-sum.ensures.small c.loop-k.invariant.small (omega arith)

pub loop-k-preserved : goal.loop-k-preserved
loop-k-preserved c =
    let few = c.requires.few in
    let inside = c.loop-k-test.true in
    let cut = c.index-cuts-k.result in
    let y : ℤ = cut_worth (cut, get_or c.args.prices.now c.loop-k.k 0) in
    let limit : (c.loop-k.k + 1) * 2 ^ 56 < 2 ^ 127 = omega arith in
    record {
      worth = ap (λ (z : ℤ). z +ℤ int_sum_by cut_worth (pairs_from c.args.cuts.now c.args.prices.now (c.loop-k.k + 1)))
          (added _ c.cut_worth-sum.result y c.loop-k.k (2 ^ 56) (record { sfits = c.cut_worth-sum.type_inv }) c.cut_worth-sum.ensures.worth c.cut_worth-sum.ensures.small c.loop-k.invariant.small limit)
          ∙ sum_next cut_worth c.args.cuts.now c.args.prices.now c.loop-k.k cut _ _ inside c.requires.count c.index-cuts-k.is c.loop-k.invariant.worth;
      small = added_small _ c.cut_worth-sum.result y c.loop-k.k (2 ^ 56) (record { sfits = c.cut_worth-sum.type_inv }) c.cut_worth-sum.ensures.worth c.cut_worth-sum.ensures.small c.loop-k.invariant.small limit;
    }
