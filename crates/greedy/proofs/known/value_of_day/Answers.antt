use Rattle.greedy.proofs.Common.{rules, ◌∙◌, FitsSigned, w64, to_z-of_z, IsMostOn}
use Rattle.greedy.proofs.BestLists.{none_at}
use Rattle.greedy.proofs.DayValues.{most_is, none_is, some_of}
use Rattle.greedy.proofs.known.value_of_day.Goals as goal

pub returns-in-Some : goal.returns-in-Some
returns-in-Some c =
    let i = c.args.instance.now in
    let prices = c.args.sums.now.prices in
    let value = c.in-Some.value in
    let most : IsMostOn i c.args.shift c.args.day prices value = some_of _ c.in_ok-value.field-0 _ value c.in-Some.is c.in_ok-value.ensures in
    let fits : FitsSigned w64 value = search rules in
    to_z-of_z w64 value fits ∙ most_is i prices c.args.shift c.args.day value most

pub returns-in-None : goal.returns-in-None
returns-in-None c = none_is c.args.instance.now c.args.sums.now.prices c.args.shift c.args.day (none_at c.in_ok-value.field-0 _ c.in-None.is c.in_ok-value.ensures)
