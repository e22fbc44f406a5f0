use Rattle.graft_tests.proofs.OneStep.{one_step_sound}
use Rattle.graft_tests.proofs.split_morning.one_step.Goals as goal

pub new-requires : goal.new-requires
new-requires c =
    let p = c.in_ok-proved in
    one_step_sound p.proved c.args.instance.now _ _ c.args.limit c.bound.result c.min-floor.result c.in_ok-lines.lines c.bound.ensures.proved p.ensures.ok.0 c.into_parts-base.ensures.cuts c.into_parts-base.ensures.prices c.bound.ensures.bound c.in_ok-lines.ensures c.min-floor.ensures
