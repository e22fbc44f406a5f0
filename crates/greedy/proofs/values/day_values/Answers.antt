use Rattle.greedy.proofs.Common.{pos, get_or, ◌∙◌, AreMostByDay}
use Rattle.greedy.proofs.BestLists.{none_at}
use Rattle.greedy.proofs.DayValues.{most_is, none_is, some_of, zeros}
use Rattle.greedy.proofs.values.day_values.Goals as goal

pub returns-in-Some : goal.returns-in-Some
returns-in-Some c =
    let i = c.args.instance.now in
    let prices = c.args.sums.now.prices in
    let most : AreMostByDay i c.args.shift prices i.days c.in-Some.most = some_of _ c.in_ok-most.field-0 _ c.in-Some.most c.in-Some.is c.in_ok-most.ensures in
    λ day d. most_is i prices c.args.shift day (get_or c.in-Some.most day (pos 0)) (most.each day d)

pub returns-in-None : goal.returns-in-None
returns-in-None c = λ day d.
    zeros 8 day ∙ none_is c.args.instance.now c.args.sums.now.prices c.args.shift day (none_at c.in_ok-most.field-0 _ c.in-None.is c.in_ok-most.ensures)
