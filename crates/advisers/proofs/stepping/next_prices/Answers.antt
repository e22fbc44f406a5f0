use Rattle.advisers.proofs.Common.{◌≡◌, ◌≤◌, ℕ, ℤ, List, true, ◌∙◌, get_or, ap, sym, subst, unsigned_abs, price_of, Prices, are_prices, cut_small, slot_small, solution, next_prices}
use Rattle.advisers.proofs.Choices.{passes_of}
use Rattle.advisers.proofs.PriceSteps.{next_from}
use Rattle.advisers.proofs.stepping.next_prices.Goals as goal

pub next_slot_prices-requires-clause-small : goal.next_slot_prices-requires-clause-small
next_slot_prices-requires-clause-small c t =
    let i = c.args.instance.now in
    let cuts = c.args.cuts.now in
    let shown = c.prices-prices.result.now in
    let passes : are_prices i cuts shown ≡ true = subst (λ (p : Prices). are_prices i cuts p ≡ true) (sym c.prices-prices.ensures.prices) (passes_of c.args.pricer.now i cuts c.requires c.prices-prices.ensures.passes) in
    subst (λ (xs : List ℤ). unsigned_abs (price_of xs t) ≤ 10000000000) (sym c.as_slice.ensures) (slot_small i cuts shown c.in_ok-chosen.ensures.valid passes t)

pub next_cut_prices-requires-clause-small : goal.next_cut_prices-requires-clause-small
next_cut_prices-requires-clause-small c k =
    let i = c.args.instance.now in
    let cuts = c.args.cuts.now in
    let shown = c.prices-prices.result.now in
    let passes : are_prices i cuts shown ≡ true = subst (λ (p : Prices). are_prices i cuts p ≡ true) (sym c.prices-prices.ensures.prices) (passes_of c.args.pricer.now i cuts c.requires c.prices-prices.ensures.passes) in
    subst (λ (xs : List ℕ). get_or xs k 0 ≤ 1000000000000) (sym c.as_slice-3.ensures) (cut_small i cuts shown passes k)

pub returns : goal.returns
returns c =
    let i = c.args.instance.now in
    let cuts = c.args.cuts.now in
    let shown = c.prices-prices.result.now in
    let same : shown ≡ c.args.pricer.now.prices = c.prices-prices.ensures.prices in
    next_from i cuts c.args.step shown c.in_ok-chosen.chosen.items c.as_slice-rows.result.now c.as_slice.result.now c.as_slice-2.result.now c.as_slice-3.result.now
    c.new.result c.new-2.result (c.in_ok-chosen.ensures.duties ∙ ap (λ (p : Prices). solution i cuts p) (sym same)) c.as_slice-rows.ensures.value c.as_slice.ensures c.as_slice-2.ensures c.as_slice-3.ensures
    (c.new.ensures ∙ c.in_ok-slots.ensures) (c.new-2.ensures ∙ c.in_ok-cuts.ensures)
    ∙ ap (λ (p : Prices). next_prices i cuts c.args.step p) same
