use Rattle.search_core.proofs.Common.{subst, sym, Problem, IsSound}
use Rattle.search_core.proofs.Floors.{finished_cost, finished_floor}
use Rattle.search_core.proofs.laws.finished_agree.Goals as goal

pub returns-clause-cost : goal.returns-clause-cost
returns-clause-cost c =
    let other = subst (λ (i : Problem). IsSound i c.args.other.now.book) (sym c.requires.instance) c.cost-2.ensures.sound in
    finished_cost c.args.one.now.instance c.args.one.now.book c.args.other.now.book c.cost.ensures.sound other c.requires.one c.requires.other

pub returns-clause-floor : goal.returns-clause-floor
returns-clause-floor c =
    let other = subst (λ (i : Problem). IsSound i c.args.other.now.book) (sym c.requires.instance) c.cost-2.ensures.sound in
    finished_floor c.args.one.now.instance c.args.one.now.book c.args.other.now.book c.cost.ensures.sound other c.requires.one c.requires.other
