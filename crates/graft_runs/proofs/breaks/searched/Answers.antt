use Rattle.graft_runs.proofs.Common.{◌≤◌, ◌^◌, false, List, length, sym, subst, rota_of, Cut, IsGreedyRun, IsSearch}
use Rattle.graft_runs.proofs.Grown.{never_asked}
use Rattle.graft_runs.proofs.Sizes.{few_pins}
use Rattle.graft_runs.proofs.breaks.searched.Goals as goal

pub solve_below-requires-clause-few : goal.solve_below-requires-clause-few
solve_below-requires-clause-few c =
    subst (λ (cuts : List Cut). length cuts ≤ 2 ^ 28) (sym c.in_ok-base.ensures.pins) (few_pins c.args.instance.now (rota_of c.args.rows.now) c.slots-valid.ensures.valid)

pub returns-clause-search : goal.returns-clause-search
returns-clause-search c =
    subst (λ (cuts : List Cut). IsSearch c.args.instance.now cuts c.args.cost c.args.steps false c.in_ok-run.run') c.in_ok-base.ensures.pins
    (never_asked c.args.instance.now c.in_ok-base.base c.args.cost c.args.steps c.in_ok-run.run' c.in_ok-run.ensures.searched c.lines-sound.ensures.sound c.in_ok-run.ensures.ends)

pub returns-clause-greedy : goal.returns-clause-greedy
returns-clause-greedy c = subst (λ (cuts : List Cut). IsGreedyRun c.args.instance.now cuts c.args.cost c.in_ok-run.run') c.in_ok-base.ensures.pins c.in_ok-run.ensures.greedy
