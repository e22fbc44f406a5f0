use Rattle.advisers.proofs.Common.{◌∙◌, arith, forced_on}
use Rattle.advisers.proofs.Forcing.{flat_more}
use Rattle.advisers.proofs.forced.add_days.Goals as goal

pub loop-day-preserved : goal.loop-day-preserved
loop-day-preserved c = record {
  instance = c.in_ok-add_day.ensures.instance ∙ c.loop-day.invariant.instance;
  duties = flat_more (forced_on c.args.instance.now c.args.cuts.now c.args.shift) c.loop-day.day c.args.cover.now.duties c.loop-day.cover.duties c.add_day.new.cover.duties
      c.loop-day.invariant.duties c.in_ok-add_day.ensures.duties;
  few = let a = c.loop-day.invariant.few in let b = c.in_ok-add_day.ensures.few in omega arith;
}
