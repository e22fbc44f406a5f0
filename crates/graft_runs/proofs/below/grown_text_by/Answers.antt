use Rattle.graft_runs.proofs.Common.{◌≤◌, ◌^◌, length, sym, subst, arith, Vec, Global, ℕ, TOP, map_ok, limit_of, GrowsBelow, IsGrownText}
use Rattle.graft_runs.proofs.Grown.{end_own, grows_below, searched_own, with_limit}
use Rattle.graft_runs.proofs.Sizes.{few_cuts}
use Rattle.graft_runs.proofs.Texts.{limit_small}
use Rattle.graft_runs.proofs.below.grown_text_by.Goals as goal

pub solve_below_by-requires-clause-few : goal.solve_below_by-requires-clause-few
solve_below_by-requires-clause-few g c =
    let cuts : length c.in_ok-base.base ≤ length c.args.whole.now.lines = few_cuts c.args.instance.now c.args.whole.now c.args.node c.in_ok-base.base c.in_ok-base.ensures.cuts in
    let few : length c.args.whole.now.lines ≤ 2 ^ 28 = c.requires.few in
    omega (arith, cuts, few)

pub solve_below_by-requires-clause-limit : goal.solve_below_by-requires-clause-limit
solve_below_by-requires-clause-limit g c = subst (λ n. n ≤ TOP) (sym c.limit_of.ensures) (limit_small c.args.instance.now c.args.whole.now c.slots-valid.ensures.valid c.in_ok-base.ensures.cuts.0)

pub text_with-requires-clause-end : goal.text_with-requires-clause-end
text_with-requires-clause-end g c =
    end_own c.args.instance.now c.args.whole.now c.args.node c.in_ok-base.base c.limit_of.result c.args.steps c.in_ok-run.run' c.slots-valid.ensures.valid c.in_ok-run.ensures.searched c.in_ok-base.ensures.cuts

pub text_with-requires-clause-searched : goal.text_with-requires-clause-searched
text_with-requires-clause-searched g c =
    let i = c.args.instance.now in
    let s = with_limit i c.args.whole.now c.args.steps c.limit_of.result c.in_ok-base.base c.in_ok-run.run' c.limit_of.ensures c.in_ok-run.ensures.searched in
    (c.args.steps, c.requires.steps, searched_own i c.in_ok-base.base (limit_of c.args.whole.now) c.args.steps c.in_ok-run.run' c.slots-valid.ensures.valid s)

pub returns-clause-text : goal.returns-clause-text
returns-clause-text g c =
    let i = c.args.instance.now in
    let whole = c.args.whole.now in
    let run = c.in_ok-run.run' in
    let P = g.P.Stop in
    let asks = P.can_ask c.args.stop.now in
    map_ok c.text_with.result (λ (v : Vec ℕ Global). IsGrownText i whole c.args.node run v.items) (λ (v : Vec ℕ Global). GrowsBelow i whole c.args.node c.args.steps asks v.items) c.text_with.ensures.text
    (λ v t. grows_below i whole c.args.node c.args.steps c.limit_of.result asks c.in_ok-base.base run v.items c.in_ok-base.ensures.cuts c.limit_of.ensures c.in_ok-run.ensures.searched c.lines-sound.ensures.sound c.in_ok-run.ensures.ends t)
