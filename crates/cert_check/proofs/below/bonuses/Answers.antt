use Rattle.cert_check.proofs.Common.{◌≡◌, ◌<◌, ◌+◌, ◌*◌, ◌^◌, ℕ, ℤ, ◌+ℤ◌, List, [], ◌∷◌, length, get_or, refl, sym, ap, ◌∙◌, arith, eqb-true, Break, int_sum_by, Cut, bonus, bonuses, duty_with, added_fits, added, added_small, pairs_from, sum_next}
use Rattle.cert_check.proofs.Whole.{bonuses_none}
use Rattle.cert_check.proofs.below.bonuses.Goals as goal

empty_is : (xs : List Break) → length xs ≡ 0 → xs ≡ []
empty_is [] e = refl
empty_is (x ∷ xs) e = absurd (omega arith)

pub returns-then-is_empty-clause-bonuses : goal.returns-then-is_empty-clause-bonuses
returns-then-is_empty-clause-bonuses c =
    let empty : c.args.list.now ≡ [] = empty_is c.args.list.now (eqb-true (length c.args.list.now) 0 (sym c.is_empty.ensures ∙ c.if-is_empty.true)) in
    sym (ap (λ (l : List Break). bonuses c.args.duties.now.cuts.now c.args.duties.now.prices.now (duty_with c.args.duties.now.shift c.args.duties.now.day l)) empty
    ∙ bonuses_none c.args.duties.now.cuts.now c.args.duties.now.prices.now c.args.duties.now.shift c.args.duties.now.day)

pub overflow_add-sum : goal.overflow_add-sum
overflow_add-sum c =
    let few = c.requires.few in
    let inside = c.loop-k-test.true in
    added_fits _ c.bonus-sum.result _ c.loop-k.k 1000000000000 (record { sfits = c.bonus-sum.type_inv }) c.bonus-sum.ensures.bonus c.bonus-sum.ensures.small c.loop-k.invariant.small (omega arith)

pub loop-k-preserved : goal.loop-k-preserved
loop-k-preserved c =
    let few = c.requires.few in
    let inside = c.loop-k-test.true in
    let cut = c.cut-item.result in
    let f : Cut × ℕ → ℤ = bonus (duty_with c.args.duties.now.shift c.args.duties.now.day c.args.list.now) in
    let y : ℤ = f (cut, get_or c.args.duties.now.prices.now c.loop-k.k 0) in
    let limit : (c.loop-k.k + 1) * 1000000000000 < 2 ^ 127 = omega arith in
    record {
      worth = ap (λ (z : ℤ). z +ℤ int_sum_by f (pairs_from c.args.duties.now.cuts.now c.args.duties.now.prices.now (c.loop-k.k + 1)))
          (added _ c.bonus-sum.result y c.loop-k.k 1000000000000 (record { sfits = c.bonus-sum.type_inv }) c.bonus-sum.ensures.bonus c.bonus-sum.ensures.small c.loop-k.invariant.small limit)
          ∙ sum_next f c.args.duties.now.cuts.now c.args.duties.now.prices.now c.loop-k.k cut _ _ inside c.requires.count c.cut-item.is c.loop-k.invariant.worth;
      small = added_small _ c.bonus-sum.result y c.loop-k.k 1000000000000 (record { sfits = c.bonus-sum.type_inv }) c.bonus-sum.ensures.bonus c.bonus-sum.ensures.small c.loop-k.invariant.small limit;
    }
