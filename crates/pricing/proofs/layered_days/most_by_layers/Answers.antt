use Rattle.pricing.proofs.Common.{◌≡◌, ◌<◌, ℕ, ℤ, [], false, List, Option, subst, arith, MatchOption, Break, is_legal, AreSums, sum_at, sums_on, IsMostEarned}
use Rattle.pricing.proofs.Daily.{most_of_values}
use Rattle.pricing.proofs.Followed.{sums_of_days}
use Rattle.pricing.proofs.Layered.{value_of_most}
use Rattle.pricing.proofs.layered_days.most_by_layers.Goals as goal

pub most_by_lane-requires-clause-sums : goal.most_by_lane-requires-clause-sums
most_by_lane-requires-clause-sums c =
    sums_of_days c.args.instance.now c.args.shift c.args.sums.now.prices c.along-sums.result.now c.shift-len.result c.shift-len.ensures.shift c.along-sums.ensures 0 c.shift-len.ensures.valid.some_days

pub returns-in-Some : goal.returns-in-Some
returns-in-Some c =
    let i = c.args.instance.now in
    let rule = c.rule_of-rule.result.now in
    let len = c.shift-len.result.len in
    let lanes = c.along-sums.result.now in
    let week = c.shift-len.ensures.valid.days in
    let found : (day : ℕ) → day < 8 → AreSums len (sums_on day lanes) → IsMostEarned rule len (sums_on day lanes) [] (sum_at c.in-Some.most day) =
    subst (λ (o : Option (List ℤ)). MatchOption o ((list : List Break) → is_legal rule len list ≡ false) (λ most. (day : ℕ) → day < 8 → AreSums len (sums_on day lanes) → IsMostEarned rule len (sums_on day lanes) [] (sum_at most day))) c.in-Some.is c.in_ok-most.ensures in
    most_of_values i c.args.shift c.args.sums.now.prices lanes c.shift-len.result rule c.in-Some.most
    c.shift-len.ensures.shift c.rule_of-rule.ensures.rule c.shift-len.ensures.valid c.shift-len.ensures.within c.along-sums.ensures
    (λ day less. value_of_most rule len (sums_on day lanes) (sum_at c.in-Some.most day)
    (found day (omega (arith, week, less)) (sums_of_days i c.args.shift c.args.sums.now.prices lanes c.shift-len.result c.shift-len.ensures.shift c.along-sums.ensures day less)))
