use Rattle.advisers.proofs.Common.{◌≡◌, ◌∙◌, ◌≤◌, ◌<◌, ℤ, pos, ◌*ℤ◌, length, get_or, to_z, of_z, ap, sym, subst, arith, rules, w64, unsigned_abs}
use Rattle.advisers.proofs.PriceSizes.{at_any, price_read, unscaled_small}
use Rattle.advisers.proofs.PriceSteps.{first_is, scaled_more, scaled_small}
use Rattle.advisers.proofs.rounds.first_prices.Goals as goal

pub scaled-requires : goal.scaled-requires
scaled-requires c =
    let price : ℤ = get_or c.in_ok-forced.forced.items c.loop-t.t (pos 0) in
    let inside : c.loop-t.t < length c.in_ok-forced.forced.items = omega arith in
    let small : unsigned_abs (price *ℤ pos c.args.q) ≤ 10000000000 =
    scaled_small c.args.instance.now c.args.cuts.now c.args.q c.loop-t.t c.in_ok-forced.forced.items c.slots.ensures.valid c.requires.scale.0 c.requires.scale.1 c.in_ok-forced.ensures inside in
    let read : to_z w64 (of_z w64 c.index.result.now) ≡ price =
    price_read c.index.result.now price (c.index.ensures ∙ at_any c.in_ok-forced.forced.items c.loop-t.t c.index.result.now (pos 0) inside) (unscaled_small price c.args.q c.requires.scale.0 small) in
    subst (λ (z : ℤ). unsigned_abs (z *ℤ pos c.args.q) ≤ 10000000000) (sym read) small

pub loop-t-preserved : goal.loop-t-preserved
loop-t-preserved c =
    let price : ℤ = get_or c.in_ok-forced.forced.items c.loop-t.t (pos 0) in
    let inside : c.loop-t.t < length c.in_ok-forced.forced.items = omega arith in
    let small : unsigned_abs (price *ℤ pos c.args.q) ≤ 10000000000 =
    scaled_small c.args.instance.now c.args.cuts.now c.args.q c.loop-t.t c.in_ok-forced.forced.items c.slots.ensures.valid c.requires.scale.0 c.requires.scale.1 c.in_ok-forced.ensures inside in
    let read : to_z w64 (of_z w64 c.index.result.now) ≡ price =
    price_read c.index.result.now price (c.index.ensures ∙ at_any c.in_ok-forced.forced.items c.loop-t.t c.index.result.now (pos 0) inside) (unscaled_small price c.args.q c.requires.scale.0 small) in
    scaled_more c.args.q c.loop-t.t c.in_ok-forced.forced.items c.loop-t.slots.items c.push.new.self.items c.scaled.result inside c.loop-t.invariant (search rules) (c.scaled.ensures ∙ ap (λ (z : ℤ). z *ℤ pos c.args.q) read)

pub returns : goal.returns
returns c =
    first_is c.args.instance.now c.args.cuts.now c.args.q c.loop-t.t c.in_ok-forced.forced.items c.new.result c.new-2.result c.in_ok-forced.ensures (c.new.ensures ∙ c.loop-t.invariant) (omega arith) (search rules)
