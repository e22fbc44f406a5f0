use Rattle.std.proofs.Common.{◌≡◌, ◌+◌, ◌*◌, ◌<◌, ◌≤◌, ◌++◌, ◌∷◌, [], ◌+ℤ◌, ℕ, ℤ, List, inl, inr, length, length-append, sym, ap, subst, ◌∙◌, arith, to_z, of_z}
use Rattle.std.specs.Int.{w64}
use Rattle.std.specs.Int.RustNames.{unsigned_abs}
use Rattle.std.proofs.lemmas.Bool.{cases_lt}
use Rattle.price_sums.specs.Along.{sum_at, price_in}
use Rattle.price_sums.proofs.Prices.{last_sum, next_size, next_sum, price_before, price_last, sizes_more}
use Rattle.rules_tests.proofs.layer_values.sums_of.Goals as goal

pub loop-offset-preserved : goal.loop-offset-preserved
loop-offset-preserved c =
    let i = c.loop-offset.invariant in
    let sums = c.loop-offset.sums.items in
    let offset = c.loop-offset.offset in
    let sum : ℤ = to_z w64 c.loop-offset.sum-bits in
    let p : ℤ = c.price_at-sum.result in
    let few : offset < 65536 = omega (arith, c.loop-offset-test.true) in
    let next : ℤ = to_z w64 (of_z w64 (sum +ℤ to_z w64 (of_z w64 p))) in
    let is : next ≡ sum +ℤ p = next_sum sum p offset i.size few c.price_at-sum.ensures in
    let items : c.push-in-loop-offset.new.self.items ≡ sums ++ next ∷ [] = c.in_ok-push-2.ensures.items in
    let size : unsigned_abs next ≤ 10000000000 * (offset + 1) = subst (λ (z : ℤ). unsigned_abs z ≤ 10000000000 * (offset + 1)) (sym is) (next_size sum p offset i.size few c.price_at-sum.ensures) in
    record {
      many = ap length items ∙ length-append sums (next ∷ []) ∙ omega (arith, i.many);
      last = last_sum sums offset next i.many ∙ ap (λ (l : List ℤ). sum_at l (offset + 1)) (sym items);
      size = size;
      sizes = subst (λ (l : List ℤ). (o : ℕ) → unsigned_abs (sum_at l o) ≤ 10000000000 * 65536) (sym items) (sizes_more sums next i.sizes (omega (arith, size, few)));
      small = λ o l. subst (λ (z : ℤ). unsigned_abs z ≤ 10000000000) (sym (ap (λ (l : List ℤ). price_in l o) items)) (elim (cases_lt o offset) [
        | inl before ↦ subst (λ (z : ℤ). unsigned_abs z ≤ 10000000000) (sym (price_before sums offset next i.many o before)) (i.small o before)
        | inr g ↦
            let same : offset ≡ o = omega arith in
            subst (λ (n : ℕ). unsigned_abs (price_in (sums ++ next ∷ []) n) ≤ 10000000000) same
            (subst (λ (z : ℤ). unsigned_abs z ≤ 10000000000) (sym (price_last sums offset next i.many sum p i.last is)) c.price_at-sum.ensures)
      ]);
    }
