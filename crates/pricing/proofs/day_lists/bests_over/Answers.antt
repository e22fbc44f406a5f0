use Rattle.pricing.proofs.Common.{rules, ◌≡◌, ◌+◌, ◌<◌, ℤ, List, length, refl, sym, ◌∙◌, subst, arith, slice_get, shift_list, sums_on, AreBestRests}
use Rattle.pricing.proofs.Daily.{own_graph, opening_at, no_list, none_below}
use Rattle.pricing.proofs.Followed.{rests_of_days, bests_of_days}
use Rattle.pricing.proofs.day_lists.bests_over.Goals as goal

pub returns-in_default : goal.returns-in_default
returns-in_default c =
    no_list c.args.instance.now c.args.shift c.args.graph.now c.args.graph.now c.requires.graph refl (sym c.node_count.ensures ∙ none_below c.node_count.result c.in_default.ensures)

pub set_values_by_day-requires-clause-graph : goal.set_values_by_day-requires-clause-graph
set_values_by_day-requires-clause-graph c =
    own_graph (slice_get (shift_list c.args.instance.now) c.args.shift) c.shift-len.result c.rule_of-rule.result.now c.args.graph.now c.args.graph.now c.shift-len.ensures.shift c.rule_of-rule.ensures.rule c.requires.graph refl

pub bests_on-requires-clause-opening : goal.bests_on-requires-clause-opening
bests_on-requires-clause-opening c =
    let nodes = c.args.graph.now in
    let graph = own_graph (slice_get (shift_list c.args.instance.now) c.args.shift) c.shift-len.result c.rule_of-rule.result.now c.args.graph.now nodes c.shift-len.ensures.shift c.rule_of-rule.ensures.rule c.requires.graph refl in
    let last : c.in-Some.opening + 1 ≡ length nodes = search rules in
    opening_at c.rule_of-rule.result.now c.shift-len.result.len nodes c.in-Some.opening graph last

pub bests_on-requires-clause-rests : goal.bests_on-requires-clause-rests
bests_on-requires-clause-rests c = λ day less.
    let i = c.args.instance.now in
    let nodes = c.args.graph.now in
    let values = c.set_values_by_day.new.values.items in
    let lanes = c.along-sums.result.now in
    let graph = own_graph (slice_get (shift_list i) c.args.shift) c.shift-len.result c.rule_of-rule.result.now c.args.graph.now nodes c.shift-len.ensures.shift c.rule_of-rule.ensures.rule c.requires.graph refl in
    let days = c.days.ensures.days in
    let week = c.days.ensures.valid.days in
    subst (λ (vs : List (List ℤ)). AreBestRests c.rule_of-rule.result.now c.shift-len.result.len nodes (sums_on day lanes) (sums_on day vs)) (sym c.deref.ensures.value)
    (rests_of_days i c.args.shift c.args.sums.now.prices lanes values c.shift-len.result c.rule_of-rule.result.now nodes c.shift-len.ensures.shift c.rule_of-rule.ensures.within graph
    c.along-sums.ensures c.in_ok-set_values_by_day.ensures (omega (arith, week)) day (subst (λ n. day < n) days less))

pub returns : goal.returns
returns c =
    let i = c.args.instance.now in
    let days = c.days.ensures.days in
    bests_of_days i c.args.shift c.args.sums.now.prices c.along-sums.result.now c.shift-len.result c.rule_of-rule.result.now c.in_ok-bests.bests.items
    c.shift-len.ensures.shift c.rule_of-rule.ensures.rule c.shift-len.ensures.valid c.shift-len.ensures.within c.along-sums.ensures
    (subst (λ n. length c.in_ok-bests.bests.items ≡ n) days c.in_ok-bests.ensures.count)
    (λ day less. c.in_ok-bests.ensures.each day (subst (λ n. day < n) (sym days) less))
