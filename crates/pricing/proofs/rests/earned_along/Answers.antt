use Rattle.pricing.proofs.Common.{◌≡◌, ◌+◌, ◌*◌, ◌≤◌, ◌∷◌, [], ℤ, pos, ◌+ℤ◌, ◌-ℤ◌, drop, get_or, sym, ap, subst, ◌∙◌, arith, to_z, of_z, FitsSigned, w64, unsigned_abs, ints, to_z-of_z, drop_more, drop_all, Break, end_of, sum_at, earned_from, price_in, Spaced, difference_fits, sum_more, sum_fits, sum_last, whole_fits, earned_size, spaced_list}
use Rattle.pricing.proofs.rests.earned_along.Goals as goal

pub loop-stop-init : goal.loop-stop-init
loop-stop-init c =
    let whole : ℤ = earned_from (price_in c.args.sums.now) c.args.rule.now c.args.len 0 c.args.list.now in
    record {
      same = c.from-resettle.ensures;
      spaced = spaced_list c.args.rule.now c.args.len c.args.list.now c.requires.rule c.requires.legal;
      sum = let z : pos 0 +ℤ whole ≡ whole = omega (arith, ints) in z;
    }

pub loop-stop-preserved : goal.loop-stop-preserved
loop-stop-preserved c =
    let rule = c.args.rule.now in
    let len = c.args.len in
    let sums = c.args.sums.now in
    let list = c.args.list.now in
    let i = c.loop-stop.stop-index in
    let d : Break = record { start = 0; len = 0 } in
    let b = get_or list i d in
    let bs = drop (i + 1) list in
    let from = c.loop-stop.from in
    let sum : ℤ = to_z w64 c.loop-stop.sum-bits in
    let whole : ℤ = earned_from (price_in sums) rule len 0 list in
    let small = earned_size sums rule len 0 list c.requires.sums in
    let inv = c.loop-stop.invariant in
    let at : drop i list ≡ b ∷ bs = drop_more list i d c.loop-stop-test.true in
    let spaced : Spaced rule from len (b ∷ bs) = subst (Spaced rule from len) at inv.spaced in
    let step : ℤ = sum_at sums b.start -ℤ sum_at sums from in
    let more = sum_more sums rule len whole c.requires.sums small sum from b bs spaced (subst (λ l. sum +ℤ earned_from (price_in sums) rule len from l ≡ whole) at inv.sum) in
    let one : to_z w64 (of_z w64 c.sum_before.result) ≡ sum_at sums b.start = to_z-of_z w64 c.sum_before.result (record { sfits = c.sum_before.type_inv }) ∙ c.sum_before.ensures ∙ ap (sum_at sums) c.from-start.ensures in
    let two : to_z w64 (of_z w64 c.sum_before-in-loop-stop.result) ≡ sum_at sums from = to_z-of_z w64 c.sum_before-in-loop-stop.result (record { sfits = c.sum_before-in-loop-stop.type_inv }) ∙ c.sum_before-in-loop-stop.ensures in
    let both : to_z w64 (of_z w64 c.sum_before.result) -ℤ to_z w64 (of_z w64 c.sum_before-in-loop-stop.result) ≡ step =
    ap (λ (z : ℤ). z -ℤ to_z w64 (of_z w64 c.sum_before-in-loop-stop.result)) one ∙ ap (λ (z : ℤ). sum_at sums b.start -ℤ z) two in
    let stretch : to_z w64 (of_z w64 c.difference.result) ≡ step =
    to_z-of_z w64 c.difference.result (record { sfits = c.difference.type_inv }) ∙ c.difference.ensures (subst (FitsSigned w64) (sym both) (difference_fits sums rule len whole c.requires.sums small b.start from)) ∙ both in
    let added : sum +ℤ to_z w64 (of_z w64 c.difference.result) ≡ sum +ℤ step = ap (λ (z : ℤ). sum +ℤ z) stretch in
    let next : to_z w64 (of_z w64 c.total-sum.result) ≡ sum +ℤ step =
    to_z-of_z w64 c.total-sum.result (record { sfits = c.total-sum.type_inv })
    ∙ c.total-sum.ensures (subst (FitsSigned w64) (sym added) (sum_fits sums rule len whole c.requires.sums small (sum +ℤ step) (end_of b + rule.resettle) bs more)) ∙ added in
    let back : c.from-start.result + c.from.result + c.from-resettle.result ≡ end_of b + rule.resettle =
    let x : c.from-start.result ≡ b.start = c.from-start.ensures in
    let y : c.from.result ≡ b.len = c.from.ensures in
    let z : c.from-resettle.result ≡ rule.resettle = inv.same in
    omega arith in
    record {
      same = inv.same;
      spaced = subst (λ n. Spaced rule n len bs) (sym back) spaced.1;
      sum = subst (λ (z : ℤ). z +ℤ earned_from (price_in sums) rule len (c.from-start.result + c.from.result + c.from-resettle.result) bs ≡ whole) (sym next)
          (subst (λ n. (sum +ℤ step) +ℤ earned_from (price_in sums) rule len n bs ≡ whole) (sym back) more);
    }

pub returns-clause-earned : goal.returns-clause-earned
returns-clause-earned c =
    let rule = c.args.rule.now in
    let len = c.args.len in
    let sums = c.args.sums.now in
    let list = c.args.list.now in
    let i = c.loop-stop.stop-index in
    let from = c.loop-stop.from in
    let sum : ℤ = to_z w64 c.loop-stop.sum-bits in
    let whole : ℤ = earned_from (price_in sums) rule len 0 list in
    let small = earned_size sums rule len 0 list c.requires.sums in
    let inv = c.loop-stop.invariant in
    let none : drop i list ≡ [] = drop_all i list c.loop-stop-test.false in
    let inside : from ≤ len = subst (Spaced rule from len) none inv.spaced in
    let last : sum +ℤ (sum_at sums len -ℤ sum_at sums from) ≡ whole = sum_last sums rule len whole c.requires.sums small sum from inside (subst (λ l. sum +ℤ earned_from (price_in sums) rule len from l ≡ whole) none inv.sum) in
    let step : ℤ = sum_at sums len -ℤ sum_at sums from in
    let one : to_z w64 (of_z w64 c.sum_before-2.result) ≡ sum_at sums len = to_z-of_z w64 c.sum_before-2.result (record { sfits = c.sum_before-2.type_inv }) ∙ c.sum_before-2.ensures ∙ ap (sum_at sums) c.from-2.ensures in
    let two : to_z w64 (of_z w64 c.sum_before-3.result) ≡ sum_at sums from = to_z-of_z w64 c.sum_before-3.result (record { sfits = c.sum_before-3.type_inv }) ∙ c.sum_before-3.ensures in
    let both : to_z w64 (of_z w64 c.sum_before-2.result) -ℤ to_z w64 (of_z w64 c.sum_before-3.result) ≡ step =
    ap (λ (z : ℤ). z -ℤ to_z w64 (of_z w64 c.sum_before-3.result)) one ∙ ap (λ (z : ℤ). sum_at sums len -ℤ z) two in
    let stretch : to_z w64 (of_z w64 c.difference-2.result) ≡ step =
    to_z-of_z w64 c.difference-2.result (record { sfits = c.difference-2.type_inv }) ∙ c.difference-2.ensures (subst (FitsSigned w64) (sym both) (difference_fits sums rule len whole c.requires.sums small len from)) ∙ both in
    let added : sum +ℤ to_z w64 (of_z w64 c.difference-2.result) ≡ whole = ap (λ (z : ℤ). sum +ℤ z) stretch ∙ last in
    to_z-of_z w64 c.total.result (record { sfits = c.total.type_inv }) ∙ c.total.ensures (subst (FitsSigned w64) (sym added) (whole_fits sums rule len whole c.requires.sums small)) ∙ added

pub returns-clause-small : goal.returns-clause-small
returns-clause-small c = subst (λ (z : ℤ). unsigned_abs z ≤ 10000000000 * 65535) (sym (returns-clause-earned c)) (earned_size c.args.sums.now c.args.rule.now c.args.len 0 c.args.list.now c.requires.sums)
