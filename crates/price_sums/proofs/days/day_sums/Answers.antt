use Rattle.price_sums.proofs.Common.{◌≡◌, ℕ, ℤ, length-append, ◌+◌, ◌*◌, ◌%◌, ◌+ℤ◌, ◌<◌, ◌≤◌, List, ◌++◌, ◌∷◌, [], length, refl, sym, ap, subst, ◌∙◌, arith, unsigned_abs, length-map, mod_below, day_slots, slots, price_of, sum_at, price_in, sums_on}
use Rattle.price_sums.proofs.Prices.{price_small, next_size, last_sum, prices_more, sizes_more}
use Rattle.price_sums.proofs.Windows.{behind_slot, before_slot, sums_more}
use Rattle.price_sums.proofs.days.day_sums.Goals as goal

pub loop-preserved : goal.loop-preserved
loop-preserved c =
    let held = c.loop.invariant in
    let i = c.args.instance.now in
    let prices = c.args.prices.now in
    let lanes = c.loop.lanes.items in
    let offset = c.loop.counter in
    let lane = c.next_lane-last.result in
    let items : c.push-in-loop.new.self.items ≡ lanes ++ lane ∷ [] = c.in_ok-push-2.ensures.items in
    let few : offset < 864 = omega (arith, c.loop-test.true, c.slots_of_day-day_slots.ensures.few) in
    let by : c.slots_of_day-day_slots.result ≡ day_slots i = c.slots_of_day-day_slots.ensures.exact in
    let count : length prices ≡ slots i = c.requires.count in
    let some : 0 < slots i = c.days.ensures.valid.some_slots in
    let p = λ (day : ℕ). price_of prices ((day * day_slots i + offset) % slots i) in
    let small : (day : ℕ) → unsigned_abs (p day) ≤ 10000000000 = λ day. price_small prices ((day * day_slots i + offset) % slots i) (omega (arith, mod_below (day * day_slots i + offset) (slots i) some, count)) c.requires.prices in
    let is : (day : ℕ) → day < i.days → sum_at lane day ≡ sum_at c.loop.last day +ℤ p day = λ day d.
    c.next_lane-last.ensures day (omega (arith, d, c.from-days.ensures, c.days.ensures.days))
    ∙ ap (λ n. sum_at c.loop.last day +ℤ price_of prices ((day * c.slots_of_day-day_slots.result + c.loop.first) % n)) count
    ∙ ap (λ n. sum_at c.loop.last day +ℤ price_of prices ((day * n + c.loop.first) % slots i)) by
    ∙ ap (λ n. sum_at c.loop.last day +ℤ price_of prices ((day * day_slots i + n) % slots i)) held.first
    ∙ ap (λ n. sum_at c.loop.last day +ℤ price_of prices n) (before_slot offset (day * day_slots i) (slots i)) in
    let size : (day : ℕ) → day < i.days → unsigned_abs (sum_at lane day) ≤ 10000000000 * (offset + 1) = λ day d.
    subst (λ (z : ℤ). unsigned_abs z ≤ 10000000000 * (offset + 1)) (sym (is day d)) (next_size (sum_at c.loop.last day) (p day) offset (held.size day d) (omega arith) (small day)) in
    let more : (day : ℕ) → sums_on day c.push-in-loop.new.self.items ≡ sums_on day lanes ++ sum_at lane day ∷ [] = λ day. ap (sums_on day) items ∙ sums_more lanes lane day in
    let many : (day : ℕ) → length (sums_on day lanes) ≡ offset + 1 = λ day. length-map lanes (λ (l : List ℤ). sum_at l day) ∙ held.many in
    record {
      many = ap length items ∙ length-append lanes (lane ∷ []) ∙ omega (arith, held.many);
      first = c.slot_behind-first.ensures ∙ ap (λ n. (c.loop.first + 1) % n) count ∙ ap (λ n. (n + 1) % slots i) held.first ∙ behind_slot offset 1 (slots i);
      last = λ day d. last_sum (sums_on day lanes) offset (sum_at lane day) (many day) ∙ ap (λ (l : List ℤ). sum_at l (offset + 1)) (sym (more day));
      size = size;
      sizes = λ day d. subst (λ (l : List ℤ). (o : ℕ) → unsigned_abs (sum_at l o) ≤ 10000000000 * 65536) (sym (more day)) (sizes_more (sums_on day lanes) (sum_at lane day) (held.sizes day d) (omega (arith, size day d, few)));
      done = λ day d o l. ap (λ (s : List ℤ). price_in s o) (more day)
          ∙ prices_more (sums_on day lanes) offset (sum_at lane day) (many day) (λ o. price_of prices ((day * day_slots i + o) % slots i)) (sum_at c.loop.last day) (p day) (held.last day d) (is day d) refl (held.done day d) o l;
    }
