use Rattle.pricing.proofs.Common.{[], refl, ◌∙◌, w64, w128, to_z-of_z, sum_at, sums_on, Priced}
use Rattle.pricing.proofs.Beyond.{best_prices}
use Rattle.pricing.proofs.day_lists.best_on.Goals as goal

pub returns : goal.returns
returns c =
    let rests = c.args.rests.now in
    let sums = sums_on c.args.day rests.sums.now in
    let inv = c.requires.rests in
    let p : Priced = record { rule = rests.rule.now; len = rests.len; sums = sums } in
    best_prices p (sum_at (sums_on c.args.day rests.values.now) c.args.opening) _ [] c.in_ok-list.list.items _ refl c.new.ensures
    (to_z-of_z w128 c.from-value.result (record { sfits = c.from-value.type_inv }) ∙ c.from-value.ensures ∙ to_z-of_z w64 c.number_on.result (record { sfits = c.number_on.type_inv }) ∙ c.number_on.ensures)
    (inv.known c.args.opening [] c.requires.opening.within c.requires.opening) c.in_ok-list.ensures
