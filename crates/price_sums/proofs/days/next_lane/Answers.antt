use Rattle.price_sums.proofs.Common.{◌≡◌, ◌+◌, ◌*◌, ◌%◌, ◌<◌, ℤ, pos, ◌+ℤ◌, length, length-set, sym, ap, ◌∙◌, subst, arith, get_or, to_z, of_z, w64, mod_below, price_of, sum_at}
use Rattle.price_sums.proofs.Prices.{price_small}
use Rattle.price_sums.proofs.Windows.{behind_day, kept_sum, lane_more}
use Rattle.price_sums.proofs.days.next_lane.Goals as goal

pub loop-day-preserved : goal.loop-day-preserved
loop-day-preserved c =
    let i = c.loop-day.invariant in
    let day = c.loop-day.day in
    let prices = c.args.prices.now in
    let by = c.args.day_slots in
    let sum : ℤ = get_or c.args.last.now day (pos 0) in
    let p : ℤ = get_or prices c.loop-day.slot (pos 0) in
    let next : ℤ = to_z w64 (of_z w64 (to_z w64 (of_z w64 sum) +ℤ to_z w64 (of_z w64 p))) in
    let is : next ≡ sum +ℤ p = kept_sum sum p (c.requires.sizes day c.loop-day-test.true) (price_small prices c.loop-day.slot i.inside c.requires.prices) in
    let here : p ≡ price_of prices ((day * by + c.args.first) % length prices) = ap (price_of prices) i.slot in
    record {
      many = length-set c.loop-day.next day next ∙ i.many;
      inside = subst (λ n. n < length prices) (sym c.slot_behind-slot.ensures) (mod_below (c.loop-day.slot + by) (length prices) (omega (arith, i.inside)));
      slot = c.slot_behind-slot.ensures ∙ ap (λ s. (s + by) % length prices) i.slot ∙ behind_day day by c.args.first (length prices);
      done = lane_more (λ d. sum_at c.args.last.now d +ℤ price_of prices ((d * by + c.args.first) % length prices)) c.loop-day.next day next (omega (arith, i.many, c.requires.days, c.loop-day-test.true)) (is ∙ ap (λ (z : ℤ). sum +ℤ z) here) i.done;
    }
