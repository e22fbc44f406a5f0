use Rattle.advisers.proofs.Common.{◌≡◌, ◌∙◌, ◌≤◌, ◌<◌, ℤ, pos, length, get_or, to_z, of_z, ap, refl, sym, subst, arith, rules, w64, unsigned_abs, slots, cover, rota_of, price_of, next_slot_price}
use Rattle.advisers.proofs.PriceSizes.{at_any, price_read}
use Rattle.advisers.proofs.PriceSteps.{slots_more}
use Rattle.advisers.proofs.stepping.next_slot_prices.Goals as goal

pub next_slot_price-requires-clause-price : goal.next_slot_price-requires-clause-price
next_slot_price-requires-clause-price c =
    let price : ℤ = get_or c.args.prices.now c.loop-t.t (pos 0) in
    let small : unsigned_abs price ≤ 10000000000 = c.requires.small c.loop-t.t in
    subst (λ (z : ℤ). unsigned_abs z ≤ 10000000000) (sym (price_read price price refl small)) small

pub loop-t-preserved : goal.loop-t-preserved
loop-t-preserved c =
    let i = c.args.instance.now in
    let t = c.loop-t.t in
    let price : ℤ = get_or c.args.prices.now t (pos 0) in
    let small : unsigned_abs price ≤ 10000000000 = c.requires.small t in
    let read : to_z w64 (of_z w64 price) ≡ price = price_read price price refl small in
    let inside : t < slots i = omega (arith, c.slots-t-end.ensures.slots) in
    let counted : t < length c.in_ok-counts.counts.items = omega (arith, c.in_ok-counts.ensures.slots) in
    let works : c.index.result.now ≡ cover i (rota_of c.args.rows.now) t =
    c.index.ensures ∙ at_any c.in_ok-counts.counts.items t c.index.result.now 0 counted ∙ c.in_ok-counts.ensures.cover t inside in
    slots_more (λ t. next_slot_price i c.args.q c.args.step (rota_of c.args.rows.now) t (price_of c.args.prices.now t)) t c.loop-t.next.items c.push.new.self.items c.next_slot_price.result c.loop-t.invariant (search rules)
    (c.next_slot_price.ensures (rota_of c.args.rows.now) works ∙ ap (λ (z : ℤ). next_slot_price i c.args.q c.args.step (rota_of c.args.rows.now) t z) read)
