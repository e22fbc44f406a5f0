use Rattle.greedy.proofs.Common.{◌∙◌}
use Rattle.greedy.proofs.Keeping.{small_prices}
use Rattle.greedy.proofs.Rounding.{prices_small}
use Rattle.greedy.proofs.kept.KeptGains.take_prices.Goals as goal

pub new-requires-clause-count : goal.new-requires-clause-count
new-requires-clause-count c =
    (prices_small c.args.instance.now c.args.cover.now.duties c.deref.result.now c.requires.valid (c.deref.ensures.value ∙ c.in_ok-prices.ensures)).all_slots

pub new-requires-clause-prices : goal.new-requires-clause-prices
new-requires-clause-prices c =
    small_prices c.args.instance.now c.deref.result.now
    (prices_small c.args.instance.now c.args.cover.now.duties c.deref.result.now c.requires.valid (c.deref.ensures.value ∙ c.in_ok-prices.ensures))
