use Rattle.short_slots.proofs.Common.{◌≡◌, ℕ, pos, ◌≤◌, max, get_or, ap, ◌∙◌, arith, unsigned_abs}
use Rattle.short_slots.proofs.Ones.{narrow, greatest_each}
use Rattle.short_slots.proofs.working.greatest_of.Goals as goal

pub loop-day-preserved : goal.loop-day-preserved
loop-day-preserved c =
    let f : ℕ → ℕ = λ day. unsigned_abs (get_or c.args.lane.now day (pos 0)) in
    let k = c.loop-day.day in
    let same : f c.from.result ≡ f k = ap f c.from.ensures in
    let small : f k ≤ 2016 = c.requires.small k c.loop-day-test.true in
    let is : c.unsigned_abs-value.result ≡ f k = c.unsigned_abs-value.ensures.value ∙ ap unsigned_abs (narrow (get_or c.args.lane.now c.from.result (pos 0)) (omega arith)) ∙ same in
    let e : c.max-greatest.result ≡ max c.loop-day.greatest c.unsigned_abs-value.result = c.max-greatest.ensures in
    record {
      each = greatest_each f k c.loop-day.greatest c.unsigned_abs-value.result c.max-greatest.result e is c.loop-day.invariant.each;
      least = λ n above.
          let a : c.loop-day.greatest ≤ n = c.loop-day.invariant.least n (λ day h. above day (omega arith)) in
          let b : f k ≤ n = above k (omega arith) in
          omega arith;
    }
