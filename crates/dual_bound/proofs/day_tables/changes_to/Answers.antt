use Rattle.dual_bound.proofs.Common.{◌≡◌, ◌+◌, ◌≤◌, pos, suc, ◌++◌, ◌∷◌, [], take, get_or, length, ap, ◌∙◌, sym, arith, enumerate_from, unsigned_abs, take-suc, length-take-le, to_z-of_z, fits_signed_from_abs, w64}
use mir.Val.{to_z, of_z}
use Rattle.dual_bound.proofs.KeptTables.{enumerate_more}
use Rattle.dual_bound.proofs.day_tables.changes_to.Goals as goal

pub loop-slot-preserved : goal.loop-slot-preserved
loop-slot-preserved c =
    let k = c.loop-slot.slot in
    let prices = c.args.prices.now in
    let price = get_or prices k (pos 0) in
    let small : unsigned_abs price ≤ 10000000000 = c.requires.small k (pos 0) c.loop-slot-test.true in
    let read : to_z w64 (of_z w64 price) ≡ price = to_z-of_z w64 price (fits_signed_from_abs w64 price (omega arith)) in
    let test = c.loop-slot-test.true in
    let next : k + 1 ≡ suc k = omega arith in
    let far : 0 + length (take k prices) ≡ k = omega (arith, length-take-le k prices (omega arith)) in
    c.in_ok-push.ensures.items
    ∙ ap (λ z. c.loop-slot.changes.items ++ (k, z) ∷ []) read
    ∙ ap (λ l. l ++ (k, price) ∷ []) c.loop-slot.invariant
    ∙ ap (λ n. enumerate_from 0 (take k prices) ++ (n, price) ∷ []) (sym far)
    ∙ sym (enumerate_more 0 (take k prices) price)
    ∙ ap (enumerate_from 0) (sym (take-suc prices k (pos 0) test) ∙ ap (λ n. take n prices) (sym next))
