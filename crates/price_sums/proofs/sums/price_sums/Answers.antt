use Rattle.price_sums.proofs.Common.{◌≡◌, ℕ, ℤ, pos, length-append, ◌+◌, ◌*◌, ◌%◌, ◌+ℤ◌, ◌<◌, ◌≤◌, List, ◌++◌, ◌∷◌, [], length, sym, ap, subst, ◌∙◌, arith, get_or, to_z, of_z, w64, unsigned_abs, mod_below, Shift, slot_of, slots, price_of, sum_at, price_in}
use Rattle.price_sums.proofs.Prices.{price_small, next_size, next_sum, next_fits, last_sum, prices_more, sizes_more, next_slot_is, some_at}
use Rattle.price_sums.proofs.sums.price_sums.Goals as goal

pub loop-init : goal.loop-init
loop-init c =
    let items : c.push.new.self.items ≡ pos 0 ∷ [] = c.in_ok-push.ensures.items ∙ ap (λ (l : List ℤ). l ++ pos 0 ∷ []) c.in_ok-sums.ensures.items in
    record {
      many = ap length items;
      last = ap (λ (l : List ℤ). sum_at l 0) (sym items);
      size = omega arith;
      sizes = subst (λ (l : List ℤ). (o : ℕ) → unsigned_abs (sum_at l o) ≤ 10000000000 * 65536) (sym items) (sizes_more [] (pos 0) (λ o. omega arith) (omega arith));
      inside = omega (arith, c.slot_of-slot.ensures.below, c.requires.count);
      slot = λ x e. some_at _ x (λ y. c.slot_of-slot.result ≡ slot_of c.args.instance.now y.0 c.args.day 0) e c.slot_of-slot.ensures.slot;
      done = λ x e o l. absurd (omega (arith, l));
    }

pub bounds-prices-slot : goal.bounds-prices-slot
bounds-prices-slot c = c.loop.invariant.inside

pub overflow_add-sum : goal.overflow_add-sum
overflow_add-sum c =
    let i = c.loop.invariant in
    let few : c.loop.counter < 65536 = omega (arith, c.loop-test.true) in
    next_fits (to_z w64 c.loop.sum-bits) (get_or c.args.prices.now c.loop.slot (pos 0)) c.loop.counter i.size few (price_small c.args.prices.now c.loop.slot i.inside c.requires.prices)

pub next_slot-slot-requires : goal.next_slot-slot-requires
next_slot-slot-requires c = c.loop.invariant.inside

pub loop-preserved : goal.loop-preserved
loop-preserved c =
    let i = c.loop.invariant in
    let sums = c.loop.sums.items in
    let offset = c.loop.counter in
    let sum : ℤ = to_z w64 c.loop.sum-bits in
    let p : ℤ = get_or c.args.prices.now c.loop.slot (pos 0) in
    let small = price_small c.args.prices.now c.loop.slot i.inside c.requires.prices in
    let few : offset < 65536 = omega (arith, c.loop-test.true) in
    let next : ℤ = to_z w64 (of_z w64 (sum +ℤ to_z w64 (of_z w64 p))) in
    let is : next ≡ sum +ℤ p = next_sum sum p offset i.size few small in
    let items : c.push-in-loop.new.self.items ≡ sums ++ next ∷ [] = c.in_ok-push-2.ensures.items in
    let size : unsigned_abs next ≤ 10000000000 * (offset + 1) = subst (λ (z : ℤ). unsigned_abs z ≤ 10000000000 * (offset + 1)) (sym is) (next_size sum p offset i.size few small) in
    let some : 0 < length c.args.prices.now = omega (arith, i.inside) in
    record {
      many = ap length items ∙ length-append sums (next ∷ []) ∙ omega (arith, i.many);
      last = last_sum sums offset next i.many ∙ ap (λ (l : List ℤ). sum_at l (offset + 1)) (sym items);
      size = size;
      sizes = subst (λ (l : List ℤ). (o : ℕ) → unsigned_abs (sum_at l o) ≤ 10000000000 * 65536) (sym items) (sizes_more sums next i.sizes (omega (arith, size, few)));
      inside = subst (λ n. n < length c.args.prices.now) (sym c.next_slot-slot.ensures) (mod_below (c.loop.slot + 1) (length c.args.prices.now) some);
      slot = λ x e. c.next_slot-slot.ensures ∙ ap (λ n. (c.loop.slot + 1) % n) c.requires.count ∙ next_slot_is c.args.instance.now x.0 c.args.day offset c.loop.slot (i.slot x e);
      done = λ x e o l.
          ap (λ (l : List ℤ). price_in l o) items
          ∙ prices_more sums offset next i.many (λ o. price_of c.args.prices.now (slot_of c.args.instance.now x.0 c.args.day o)) sum p i.last is (ap (price_of c.args.prices.now) (i.slot x e)) (i.done x e) o l;
    }

pub returns-clause-small : goal.returns-clause-small
returns-clause-small c = λ x e.
    let len : c.shift-len.result ≡ x.0 = some_at _ x (λ y. c.shift-len.result ≡ y.0) e c.shift-len.ensures.shift in
    let same = ap (λ (s : Shift). s.len) len in
    let short = c.shift-len.ensures.within.short in
    let limit = c.shift-len.ensures.valid.day_limit in
    record {
      short = omega arith;
      size = c.loop.invariant.sizes;
      small = λ o l.
          let slot = slot_of c.args.instance.now x.0 c.args.day o in
          let inside : slot < slots c.args.instance.now = mod_below _ (slots c.args.instance.now) c.shift-len.ensures.valid.some_slots in
          subst (λ (z : ℤ). unsigned_abs z ≤ 10000000000) (sym (c.loop.invariant.done x e o (omega arith)))
          (price_small c.args.prices.now slot (omega (arith, inside, c.requires.count)) c.requires.prices);
    }
