use Rattle.break_layers.proofs.Common.{rules, ◌≡◌, ◌≢◌, ◌<◌, ◌+ℤ◌, ℤ, pos, length, length-set, get_or, sym, ap, subst, ◌∙◌, arith, to_z, of_z, FitsSigned, w64, to_z-of_z, sum_at, NOTHING}
use Rattle.break_layers.proofs.Rows.{lane_more}
use Rattle.break_layers.proofs.numbers.LaneNumber.with.Goals as goal

pub loop-k-preserved : goal.loop-k-preserved
loop-k-preserved c =
    let i = c.loop-k.invariant in
    let lane = c.loop-k.total in
    let k = c.loop-k.k in
    let x : ℤ = get_or c.args.self.now k (pos 0) in
    let y : ℤ = get_or c.args.sum.now k (pos 0) in
    let one : to_z w64 (of_z w64 x) ≡ x = to_z-of_z w64 x (search rules) in
    let two : to_z w64 (of_z w64 y) ≡ y = to_z-of_z w64 y (search rules) in
    let z : ℤ = to_z w64 (of_z w64 c.plus.result) in
    let whole : z ≡ c.plus.result = to_z-of_z w64 c.plus.result (record { sfits = c.plus.type_inv }) in
    let both : to_z w64 (of_z w64 x) +ℤ to_z w64 (of_z w64 y) ≡ x +ℤ y = ap (λ (v : ℤ). v +ℤ to_z w64 (of_z w64 y)) one ∙ ap (λ (v : ℤ). x +ℤ v) two in
    let inside : k < length lane = omega (arith, i.many, c.loop-k-test.true) in
    record {
      many = length-set lane k z ∙ i.many;
      nothing = lane_more (λ j (v : ℤ). sum_at c.args.self.now j ≡ NOTHING → v ≡ NOTHING) lane k z inside i.nothing (λ none. whole ∙ c.plus.ensures.nothing (one ∙ none));
      done = lane_more (λ j (v : ℤ). sum_at c.args.self.now j ≢ NOTHING → FitsSigned w64 (sum_at c.args.self.now j +ℤ sum_at c.args.sum.now j) → v ≡ sum_at c.args.self.now j +ℤ sum_at c.args.sum.now j) lane k z inside i.done
          (λ some fits. whole ∙ c.plus.ensures.total (λ none. some (sym one ∙ none)) (subst (FitsSigned w64) (sym both) fits) ∙ both);
    }
