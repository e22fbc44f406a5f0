use Rattle.greedy.proofs.Common.{◌∙◌, ap, Priced}
use Rattle.greedy.proofs.Keeping.{keeps_nothing, small_prices}
use Rattle.greedy.proofs.Rounding.{prices_small}
use Rattle.greedy.proofs.kept.KeptGains.opening.Goals as goal

pub new-requires-clause-count : goal.new-requires-clause-count
new-requires-clause-count c =
    (prices_small c.args.instance.now c.args.cover.now.duties c.deref.result.now c.requires.valid (c.deref.ensures.value ∙ c.in_ok-prices.ensures)).all_slots

pub new-requires-clause-prices : goal.new-requires-clause-prices
new-requires-clause-prices c =
    small_prices c.args.instance.now c.deref.result.now
    (prices_small c.args.instance.now c.args.cover.now.duties c.deref.result.now c.requires.valid (c.deref.ensures.value ∙ c.in_ok-prices.ensures))

pub returns-clause-kept : goal.returns-clause-kept
returns-clause-kept c =
    let i = c.args.instance.now in
    record {
      marginal = c.in_ok-prices.ensures;
      instance = ap (λ (p : Priced). p.instance) c.in_ok-sums.ensures;
      summed = ap (λ (p : Priced). p.prices) c.in_ok-sums.ensures ∙ c.deref.ensures.value ∙ c.in_ok-prices.ensures;
      each = keeps_nothing i c.in_ok-sums.sums.prices c.in_ok-known.known.items (c.in_ok-known.ensures.count ∙ c.shifts.ensures.count) c.in_ok-known.ensures.nothing;
    }
