use Rattle.greedy.proofs.Common.{arith}
use Rattle.greedy.proofs.Rounding.{duties_more, duties_all, prices_small}
use Rattle.greedy.proofs.plan.add_days.Goals as goal

pub loop-day-preserved : goal.loop-day-preserved
loop-day-preserved c = record {
  draft = c.in_ok-add_day.ensures.draft;
  duties = duties_more c.args.instance.now c.args.draft.now.cover.duties c.loop-day.draft.cover.duties c.add_day.new.draft.cover.duties c.args.prices.now c.args.shift c.loop-day.day
      c.requires.prices c.loop-day.invariant.duties c.in_ok-add_day.ensures.duties;
}

pub returns-clause-duties : goal.returns-clause-duties
returns-clause-duties c =
    duties_all c.args.instance.now c.args.draft.now.cover.duties c.loop-day.draft.cover.duties c.args.prices.now c.args.shift c.loop-day.day c.requires.prices c.loop-day.invariant.duties (omega (arith, c.days-day-end.ensures.days))

pub add_day-requires-clause-prices : goal.add_day-requires-clause-prices
add_day-requires-clause-prices c = prices_small c.args.instance.now c.args.draft.now.cover.duties c.args.prices.now c.requires.draft.valid c.requires.prices
