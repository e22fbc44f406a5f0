use Rattle.pricing.proofs.Common.{◌≡◌, ◌<◌, ℕ, false, List, Option, length, sym, subst, ◌∙◌, MatchOption, Break, is_legal, sums_on, IsBestBy, best_at}
use Rattle.pricing.proofs.Followed.{bests_of_days, sums_of_days}
use Rattle.pricing.proofs.layered_days.bests_by_layers.Goals as goal

pub bests_of_days-requires-clause-sums : goal.bests_of_days-requires-clause-sums
bests_of_days-requires-clause-sums c = λ day less.
    sums_of_days c.args.instance.now c.args.shift c.args.sums.now.prices c.along-lanes.result.now c.shift-len.result c.shift-len.ensures.shift c.along-lanes.ensures day (subst (λ n. day < n) c.days.ensures.days less)

pub returns-in-Some : goal.returns-in-Some
returns-in-Some c =
    let rule = c.rule_of-rule.result.now in
    let len = c.shift-len.result.len in
    let lanes = c.along-lanes.result.now in
    let days = c.days.ensures.days in
    let found : (length c.in-Some.bests.items ≡ c.days.result) × ((day : ℕ) → day < c.days.result → IsBestBy rule len (sums_on day lanes) (best_at c.in-Some.bests.items day)) =
    subst (λ (o : Option _). MatchOption o ((list : List Break) → is_legal rule len list ≡ false) (λ bests. (length bests.items ≡ c.days.result) × ((day : ℕ) → day < c.days.result → IsBestBy rule len (sums_on day lanes) (best_at bests.items day)))) c.in-Some.is c.in_ok-bests.ensures in
    bests_of_days c.args.instance.now c.args.shift c.args.sums.now.prices lanes c.shift-len.result rule c.in-Some.bests.items
    c.shift-len.ensures.shift c.rule_of-rule.ensures.rule c.shift-len.ensures.valid c.shift-len.ensures.within c.along-lanes.ensures
    (found.0 ∙ days) (λ day less. found.1 day (subst (λ n. day < n) (sym days) less))
