use Rattle.advisers.proofs.Common.{◌∙◌, arith, rules, forced_of}
use Rattle.advisers.proofs.Forcing.{flat_more_alone, rota_is}
use Rattle.advisers.proofs.forced.forced_cover.Goals as goal

pub loop-shift-preserved : goal.loop-shift-preserved
loop-shift-preserved c = record {
  instance = c.in_ok-add_days.ensures.instance ∙ c.loop-shift.invariant.instance;
  duties = flat_more_alone (forced_of c.args.instance.now c.args.cuts.now) c.loop-shift.shift c.loop-shift.cover.duties c.add_days.new.cover.duties
      c.loop-shift.invariant.duties c.in_ok-add_days.ensures.duties;
  few = let a = c.loop-shift.invariant.few in let b = c.in_ok-add_days.ensures.few in omega arith;
}

pub returns-clause-duties : goal.returns-clause-duties
returns-clause-duties c = rota_is c.args.instance.now c.args.cuts.now c.loop-shift.cover.duties c.loop-shift.shift c.loop-shift.invariant.duties (search rules)
